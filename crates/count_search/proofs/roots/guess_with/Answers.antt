use Rattle.std.proofs.Common.{◌∷◌, [], length, length-append, arith, ap, ◌∙◌, sym, subst}
use Rattle.puzzle_symmetry.specs.Motion.{AreOfPuzzle}
use Rattle.xcc_form.specs.Chosen.{Selection}
use Rattle.count_search.proofs.roots.guess_with.Goals as goal

pub choose-requires : goal.choose-requires
choose-requires g c = c.requires.option

pub guess_below-nodes-requires : goal.guess_below-nodes-requires
guess_below-nodes-requires g c =
    subst (λ (v : Selection). AreOfPuzzle v.compiled.puzzle c.args.splitter.now.symmetries.now) (sym c.in_ok-choose.ensures.chosen) c.requires.puzzle

pub undo-requires : goal.undo-requires
undo-requires g c =
    let same = ap (λ e. length (g.E.OpenOptions.selection e).chosen) c.guess_below-nodes.ensures in
    let more = ap (λ (v : Selection). length v.chosen) c.in_ok-choose.ensures.chosen in
    let long = length-append (g.E.OpenOptions.selection c.args.engine.now).chosen (c.args.option ∷ []) in
    omega (arith, same, more, long)

pub returns-in_err-choose : goal.returns-in_err-choose
returns-in_err-choose g c = c.in_err-choose.ensures.refused

pub returns : goal.returns
returns g c = c.undo.ensures ∙ ap g.E.OpenOptions.taken_back c.guess_below-nodes.ensures ∙ c.in_ok-choose.ensures.before
