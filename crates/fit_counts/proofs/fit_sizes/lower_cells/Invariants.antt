use Rattle.std.proofs.Common.{length}
use Rattle.fit_counts.proofs.LowerLemmas.{AreCellsLowered}
use Rattle.fit_counts.proofs.fit_sizes.lower_cells.Given as goal

abbrev pub invariant-loop-cell : goal.invariant-loop-cell
invariant-loop-cell l = AreCellsLowered l.rows l.tile l.left l.initial.sizes.items l.sizes.items

abbrev pub decreases-loop-cell : goal.decreases-loop-cell
decreases-loop-cell l = length l.left
