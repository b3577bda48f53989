use Rattle.std.proofs.Common.{◌∙◌, refl, ap, sym, subst}
use Rattle.puzzle_symmetry.specs.Motion.{AreOfPuzzle}
use Rattle.xcc_form.specs.Chosen.{Selection}
use Rattle.count_search.proofs.roots.best_of.Goals as goal

pub loop-init : goal.loop-init
loop-init g c = refl

pub better_half-requires : goal.better_half-requires
better_half-requires g c =
    subst (λ (v : Selection). AreOfPuzzle v.compiled.puzzle c.args.splitter.now.symmetries.now) (sym (ap g.E.OpenOptions.selection c.loop.invariant)) c.requires

pub loop-preserved : goal.loop-preserved
loop-preserved g c = c.better_half.ensures ∙ c.loop.invariant

pub returns : goal.returns
returns g c = c.loop.invariant
