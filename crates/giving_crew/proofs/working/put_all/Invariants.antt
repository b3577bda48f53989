use Rattle.std.proofs.Common.{[]}
use Rattle.giving_crew.specs.LiveWorkers.{Did}
use Rattle.giving_crew.proofs.working.put_all.Given as goal

abbrev pub invariant-loop : goal.invariant-loop
invariant-loop g l = Did l.shared.queue (g.W.LiveWork.gives l.work) [] l.initial.worker l.worker
