use Rattle.std.proofs.Common.{◌<◌, ◌/◌, ◌%◌, slice_index}
use Rattle.match_limits.specs.Listing.{IsListing}
use Rattle.match_puzzle.proofs.placement_sets.legal_set.Given as goal

abbrev pub invariant-loop-tile : goal.invariant-loop-tile
invariant-loop-tile l = IsListing ◌<◌ (λ n. (n / 4 < l.tile) × (n % 4 < slice_index l.turn_counts (n / 4))) l.set
