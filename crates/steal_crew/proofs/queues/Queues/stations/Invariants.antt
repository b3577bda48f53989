use Rattle.std.proofs.Common.{◌≡◌, All, vec_len}
use Rattle.steal_crew.specs.Queues.{AreDealt, IsStation}
use Rattle.steal_crew.proofs.queues.Queues.stations.Given as goal

abbrev pub invariant-loop-number : goal.invariant-loop-number
invariant-loop-number l = let was = l.initial.self in record {
  queues : AreDealt was.handles was.count l.number l.self;
  each : All (IsStation (vec_len was.handles) was.count was.handles.items) l.list.items;
  len : vec_len l.list ≡ l.number;
}
