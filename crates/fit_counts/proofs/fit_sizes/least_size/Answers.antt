use Rattle.std.proofs.Common.{arith}
use Rattle.fit_counts.proofs.LowerLemmas.{least_more}
use Rattle.fit_counts.proofs.fit_sizes.least_size.Goals as goal

pub loop-size-preserved : goal.loop-size-preserved
loop-size-preserved c =
    least_more c.args.sizes.now c.loop-size.size-index c.loop-size.least c.min-least.result c.loop-size-test.true (omega arith) c.min-least.ensures c.loop-size.invariant
