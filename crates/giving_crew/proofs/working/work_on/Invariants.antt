use Rattle.std.proofs.Common.{[]}
use Rattle.giving_crew.specs.LiveWorkers.{Worked}
use Rattle.giving_crew.proofs.working.work_on.Given as goal

abbrev pub invariant-loop : goal.invariant-loop
invariant-loop g l = Worked l.shared.queue (g.W.LiveWork.gives l.work) [] l.initial.worker l.worker
