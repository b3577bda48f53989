use Rattle.std.proofs.Common.{refl, ap, sym, ◌∙◌, subst}
use Rattle.puzzle_symmetry.specs.Motion.{AreOfPuzzle}
use Rattle.xcc_form.specs.Chosen.{Selection}
use Rattle.count_search.proofs.roots.better_half.Goals as goal

pub loop-old-init : goal.loop-old-init
loop-old-init g c = refl

pub guess-requires : goal.guess-requires
guess-requires g c =
    subst (λ (v : Selection). AreOfPuzzle v.compiled.puzzle c.args.splitter.now.symmetries.now) (sym (ap g.E.OpenOptions.selection c.loop-old.invariant)) c.requires

pub returns-in_err-by : goal.returns-in_err-by
returns-in_err-by g c = c.guess.ensures ∙ c.loop-old.invariant

pub returns : goal.returns
returns g c = c.loop-old.invariant
