use Rattle.std.proofs.Common.{◌≡◌, ◌+◌, ◌≤◌, vec_len}
use Rattle.crew_machine.specs.Counts.{once_below}
use Rattle.steal_crew.specs.Queues.{Owners, Places}
use Rattle.steal_crew.proofs.queues.Queues.take_in.Given as goal

abbrev pub invariant-loop-place : goal.invariant-loop-place
invariant-loop-place l = let was = l.initial.self in record {
  same : l.self.handles ≡ was.handles;
  count : l.self.count ≡ was.count;
  out : l.self.out ≡ was.out;
  owners : Owners (λ j. was.out + once_below j (vec_len l.places)) (vec_len was.handles) was.count was.handles.items l.self.owners.items;
  places : Places (vec_len l.places) was.count was.handles.items l.places.items;
  few : vec_len l.places ≤ vec_len was.handles;
}

abbrev pub decreases-loop-place : goal.decreases-loop-place
decreases-loop-place l = vec_len l.places
