use Rattle.std.proofs.Common.{◌≡◌, Some, slice_get, ap, sym, ◌∙◌, subst, ⊎_elim}
use Rattle.match_limits.proofs.ListLemmas.{pushed_at}
use Rattle.puzzle_symmetry.specs.Motion.{Motion}
use Rattle.puzzle_maker.proofs.trials.symmetries_of.Goals as goal

pub loop-line-preserved : goal.loop-line-preserved
loop-line-preserved c = λ number m at.
    ⊎_elim
    (c.loop-line.invariant number m)
    (λ same. sym (ap (λ (n : Motion). n.puzzle) same) ∙ ap (λ (n : Motion). n.puzzle) c.in-Ok.ensures.symmetry.0)
    (pushed_at c.loop-line.symmetries.items c.in-Ok.symmetry number m (subst (λ xs. slice_get xs number ≡ Some m) c.in_ok-push-in-Ok.ensures.items at))
