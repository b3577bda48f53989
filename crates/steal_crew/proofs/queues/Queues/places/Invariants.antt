use Rattle.std.proofs.Common.{◌≡◌, ◌+◌, ℕ, vec_len}
use Rattle.crew_machine.specs.Counts.{once_below}
use Rattle.steal_crew.specs.Queues.{Owners, Places, taken_by}
use Rattle.steal_crew.proofs.queues.Queues.places.Given as goal

abbrev pub invariant-loop-q : goal.invariant-loop-q
invariant-loop-q l = let was = l.initial.self in record {
  same : l.self.handles ≡ was.handles;
  count : l.self.count ≡ was.count;
  out : l.self.out ≡ was.out;
  owners : Owners (λ j. was.out + once_below j l.q) (vec_len was.handles) was.count was.handles.items l.self.owners.items;
  places : Places l.q was.count was.handles.items l.list.items;
  fresh : (x : ℕ) → taken_by x l.list.items ≡ 0;
}
