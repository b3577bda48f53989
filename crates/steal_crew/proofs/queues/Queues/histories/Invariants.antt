use Rattle.std.proofs.Common.{◌≡◌, ◌<◌, ◌≤◌, ℕ, vec_len, slice_index_or}
use Rattle.crossbeam_deque.specs.Handles.{view, worker_view}
use Rattle.steal_crew.specs.Queues.{Owner, Place, IsSpent}
use Rattle.steal_crew.proofs.queues.Queues.histories.Given as goal

abbrev pub invariant-loop-q : goal.invariant-loop-q
invariant-loop-q l = let was = l.initial.self in record {
  len : vec_len l.self.owners ≡ vec_len was.handles;
  list_len : vec_len l.list ≡ l.q;
  left : (j : ℕ) (o : Owner) → l.q ≤ j → j < vec_len was.handles → IsSpent (vec_len was.handles) was.count j (worker_view (slice_index_or l.self.owners.items j o));
  known : (j : ℕ) (p : Place) → j < l.q → IsSpent (vec_len was.handles) was.count j (view (slice_index_or l.list.items j p));
}
