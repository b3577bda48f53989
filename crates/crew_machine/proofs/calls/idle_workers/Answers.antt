use Rattle.std.proofs.Common.{None, false}
use Rattle.crew_machine.specs.Machine.{nobody}
use Rattle.crew_machine.proofs.MachineLemmas.{one_more}
use Rattle.crew_machine.proofs.calls.idle_workers.Goals as goal

pub loop-preserved : goal.loop-preserved
loop-preserved c = one_more c.loop.counter nobody _ _ _ c.loop.invariant c.in_ok-push.ensures.items (λ i. record { taken = c.new-taken.ensures.items i; busy = None; drawn = c.new-drawn.ensures.items i; stopped = false })
