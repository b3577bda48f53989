use Rattle.std.proofs.Common.{◌≡◌, ◌-◌, length}
use Rattle.crossbeam_deque.specs.Handles.{worker_view, worker_deque, worker_flavor}
use Rattle.steal_crew.proofs.gathering.drain.Given as goal
use Rattle.steal_crew.specs.QueueRule.{part_count}

abbrev pub invariant-loop : goal.invariant-loop
invariant-loop l = record {
  deque : worker_deque l.owner ≡ worker_deque l.initial.owner;
  fifo : worker_flavor l.owner ≡ 0;
  whole : (worker_view l.owner).parts ≡ part_count;
  below : (worker_view l.owner).below ≡ (worker_view l.initial.owner).below;
  dealt : (worker_view l.owner).dealt ≡ (worker_view l.initial.owner).dealt;
}

abbrev pub decreases-loop : goal.decreases-loop
decreases-loop l = length (worker_view l.owner).dealt - length (worker_view l.owner).taken
