use Rattle.std.proofs.Common.{◌<◌, ◌/◌, ◌%◌}
use Rattle.match_limits.specs.Listing.{IsListing}
use Rattle.match_puzzle.specs.Fitting.{Fits, turned_tile}
use Rattle.cert_check.proofs.fitting.put_fitting_of.Given as goal

-- where the tile fits at the cells before this one
abbrev pub invariant-loop-cell : goal.invariant-loop-cell
invariant-loop-cell l = IsListing ◌<◌ (λ n. (n / 4 < l.cell) × Fits l.partial.puzzle l.partial.placed (n / 4) (turned_tile l.tile (n % 4))) l.numbers
