use Rattle.std.proofs.Common.{◌≡◌, ℕ, refl, subst, sym}
use Rattle.crew_machine.specs.Counts.{times}
use Rattle.steal_crew.specs.QueueRule.{part_count}
use Rattle.steal_crew.specs.declared.jobs.JobView.{JobView}
use Rattle.steal_crew.proofs.JobLemmas.{takes, finds}
use Rattle.giving_crew.proofs.LiveWorkerLemmas.{moved_none, moved_took, worked_same}
use Rattle.giving_crew.proofs.working.work_on.Goals as goal

pub steal_as-requires-clause-rule : goal.steal_as-requires-clause-rule
steal_as-requires-clause-rule g c = (takes _ _ c.loop.invariant.idle.ready.some_part, finds _ _)

pub loop-preserved-in-Continue-1 : goal.loop-preserved-in-Continue-1
loop-preserved-in-Continue-1 g c = record {
  idle = c.in_ok-ended-in-Success.ensures.idle;
  moved = moved_took _ c.loop.worker _ _ c.in-Success.numbered.number c.loop.invariant.moved refl refl
      c.in-Success.ensures.rule c.in_ok-ended-in-Success.ensures.moved;
}

pub loop-init : goal.loop-init
loop-init g c = record { idle = c.requires; moved = moved_none _ }

pub steal_as-requires-clause-queue : goal.steal_as-requires-clause-queue
steal_as-requires-clause-queue g c = c.loop.invariant.idle.ready.pass

pub returns-then-load-eq0 : goal.returns-then-load-eq0
returns-then-load-eq0 g c = let told = c.in-Empty.ensures in let Drained : JobView
    → Type 0 = λ v. v.parts ≡ part_count → (x : ℕ) → times x v.dealt ≡ times x v.taken in (
      worked_same _ _ _ c.loop.worker _ c.loop.invariant told.same.0 refl refl told.rule.0,
      subst Drained (sym told.rule.0) told.rule.1,
    )

pub loop-preserved-in-Empty : goal.loop-preserved-in-Empty
loop-preserved-in-Empty g c = let told = c.in-Empty.ensures in
    worked_same _ _ _ c.loop.worker _ c.loop.invariant told.same.0 refl refl told.rule.0

pub loop-preserved : goal.loop-preserved
loop-preserved g c = let told = c.in-Retry.ensures in
    worked_same _ _ _ c.loop.worker _ c.loop.invariant told.same.0 refl refl told.rule
