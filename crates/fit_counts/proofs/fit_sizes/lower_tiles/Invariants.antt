use Rattle.std.proofs.Common.{length}
use Rattle.fit_counts.proofs.LowerLemmas.{AreTilesLowered}
use Rattle.fit_counts.proofs.fit_sizes.lower_tiles.Given as goal

abbrev pub invariant-loop-number : goal.invariant-loop-number
invariant-loop-number l = AreTilesLowered l.numbers l.left l.cells l.initial.sizes.items l.sizes.items

abbrev pub decreases-loop-number : goal.decreases-loop-number
decreases-loop-number l = length l.left
