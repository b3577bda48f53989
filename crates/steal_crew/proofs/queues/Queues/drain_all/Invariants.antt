use Rattle.std.proofs.Common.{◌≡◌, ◌<◌, ℕ, slice_index_or, vec_len}
use Rattle.crossbeam_deque.specs.Handles.{worker_view}
use Rattle.steal_crew.specs.Queues.{Owner, Owners, IsSpent}
use Rattle.steal_crew.proofs.queues.Queues.drain_all.Given as goal

abbrev pub invariant-loop-q : goal.invariant-loop-q
invariant-loop-q l = let was = l.initial.self in record {
  same : l.self.handles ≡ was.handles;
  count : l.self.count ≡ was.count;
  owners : Owners (λ _. 0) (vec_len was.handles) was.count was.handles.items l.self.owners.items;
  spent : (j : ℕ) (o : Owner) → j < l.q → IsSpent (vec_len was.handles) was.count j (worker_view (slice_index_or l.self.owners.items j o));
}
