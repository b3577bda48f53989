use Rattle.std.proofs.Common.{◌≡◌}
use Rattle.steal_crew.specs.Queues.{Owners}
use Rattle.steal_crew.proofs.queues.Queues.deal.Given as goal

abbrev pub invariant-loop-number : goal.invariant-loop-number
invariant-loop-number l = record {
  same : l.self.handles ≡ l.initial.self.handles;
  out : l.self.out ≡ 0;
  owners : Owners (λ _. 0) l.queues l.number l.initial.self.handles.items l.self.owners.items;
}
