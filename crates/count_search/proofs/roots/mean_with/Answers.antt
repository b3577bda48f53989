use Rattle.std.proofs.Common.{◌∷◌, [], length, length-append, arith, ap, ◌∙◌}
use Rattle.xcc_form.specs.Chosen.{Selection}
use Rattle.count_search.proofs.roots.mean_with.Goals as goal

pub choose-requires : goal.choose-requires
choose-requires g c = c.requires

pub undo-requires : goal.undo-requires
undo-requires g c =
    let same = ap (λ e. length (g.E.OpenOptions.selection e).chosen) c.mean-nodes.ensures in
    let more = ap (λ (v : Selection). length v.chosen) c.in_ok-choose.ensures.chosen in
    let long = length-append (g.E.OpenOptions.selection c.args.engine.now).chosen (c.args.option ∷ []) in
    omega (arith, same, more, long)

pub returns-in_err-choose : goal.returns-in_err-choose
returns-in_err-choose g c = c.in_err-choose.ensures.refused

pub returns : goal.returns
returns g c = c.undo.ensures ∙ ap g.E.OpenOptions.taken_back c.mean-nodes.ensures ∙ c.in_ok-choose.ensures.before
