use Rattle.std.proofs.Common.{◌≡◌, [], arith}
use Rattle.crossbeam_deque.specs.Handles.{worker_view}
use Rattle.steal_crew.proofs.QueueRuleLemmas.{takes, finds}
use Rattle.steal_crew.proofs.gathering.drain.Goals as goal
use Rattle.steal_crew.specs.QueueRule.{part_count}

pub pop_as-requires-clause-fifo : goal.pop_as-requires-clause-fifo
pop_as-requires-clause-fifo c = λ _. let p : (worker_view c.loop.owner).parts ≡ part_count = c.loop.invariant.whole in takes _ _ (omega arith)

pub pop_as-requires-clause-empty : goal.pop_as-requires-clause-empty
pop_as-requires-clause-empty c = λ views k at. finds _ _ [] views (omega arith) k at
