use Rattle.std.proofs.Common.{length}
use Rattle.solver.proofs.strategy.dives.Dives.+nodes_below.Given as goal

abbrev pub decreases-nodes_below : goal.decreases-nodes_below
decreases-nodes_below g l = length l.pairs.now
