use Rattle.steal_crew.specs.Queues.{Owners}
use Rattle.steal_crew.proofs.queues.Queues.open.Given as goal

abbrev pub invariant-loop : goal.invariant-loop
invariant-loop l = Owners (λ _. 0) l.counter 0 l.handles.items l.owners.items
