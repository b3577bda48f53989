use Rattle.std.proofs.Common.{◌≡◌, arith}
use Rattle.crossbeam_deque.specs.Handles.{view}
use Rattle.steal_crew.proofs.QueueRuleLemmas.{takes}
use Rattle.steal_crew.proofs.taking.steal_from.Goals as goal

pub steal_as-requires-clause-takes : goal.steal_as-requires-clause-takes
steal_as-requires-clause-takes c = let p : (view c.loop.place).parts ≡ 1 = c.loop.invariant.0.part in takes _ _ (omega arith)
