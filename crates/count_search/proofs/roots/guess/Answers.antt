use Rattle.std.proofs.Common.{refl, ap, sym, subst}
use Rattle.puzzle_symmetry.specs.Motion.{AreOfPuzzle}
use Rattle.xcc_form.specs.Chosen.{Selection}
use Rattle.count_search.proofs.roots.guess.Goals as goal

pub loop-child-init : goal.loop-child-init
loop-child-init g c = refl

pub guess_with-requires-clause-puzzle : goal.guess_with-requires-clause-puzzle
guess_with-requires-clause-puzzle g c =
    subst (λ (v : Selection). AreOfPuzzle v.compiled.puzzle c.args.splitter.now.symmetries.now) (sym (ap g.E.OpenOptions.selection c.loop-child.invariant)) c.requires

pub returns : goal.returns
returns g c = c.loop-child.invariant
