use Rattle.std.proofs.Common.{◌∷◌, [], length, length-append, arith, ap, ◌∙◌}
use Rattle.xcc_form.specs.Chosen.{Selection}
use Rattle.solver.proofs.strategy.dives.Dives.+dive.Goals as goal
use Rattle.solver.proofs.strategy.dives.Dives.+dive.Goals.{then-has_one_for, else-has_one_for+in_ok-choose+in_ok-below}

pub undo-requires : goal.undo-requires
undo-requires g t c =
    let same = ap (λ e. length (g.E.OpenOptions.selection e).chosen) {x = c.dive-nodes.new.engine} {y = c.choose.new.self} c.dive-nodes.ensures in
    let more = ap (λ (v : Selection). length v.chosen) c.in_ok-choose.ensures.chosen in
    let long = length-append (g.E.OpenOptions.selection c.args.engine.now).chosen (c.in-Some-option_behind.option ∷ []) in
    omega (arith, same, more, long)

pub returns-in_err-choose : goal.returns-in_err-choose
returns-in_err-choose g t c = c.in_err-choose.ensures.refused

pub returns-in_err-below : goal.returns-in_err-below
returns-in_err-below g t c = c.undo.ensures ∙ ap g.E.OpenOptions.taken_back {y = c.choose.new.self} c.dive-nodes.ensures ∙ c.in_ok-choose.ensures.before

pub returns : goal.returns
returns g t c =
    elim c.if-has_one_for.branch [
      | then-has_one_for w ↦ w.engine-is
      | else-has_one_for+in_ok-choose+in_ok-below w ↦ w.engine-is ∙ w.undo.ensures ∙ ap g.E.OpenOptions.taken_back {y = w.choose.new.self} w.dive-nodes.ensures ∙ w.in_ok-choose.ensures.before
    ]
