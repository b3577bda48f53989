use Rattle.std.proofs.Common.{[]}
use Rattle.crew_machine.proofs.MachineLemmas.{one_more}
use Rattle.crew_machine.proofs.calls.empty_queues.Goals as goal

pub loop-preserved : goal.loop-preserved
loop-preserved c = one_more c.loop.counter [] _ _ _ c.loop.invariant c.in_ok-push.ensures.items c.new-numbers.ensures.items
