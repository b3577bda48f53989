use Rattle.std.proofs.Common.{◌<◌, ◌≢◌, ◌/◌, ◌%◌, [], map, slice_index_or}
use Rattle.match_limits.specs.declared.TheConstants.{MOST_COLOURS}
use Rattle.match_limits.specs.Listing.{IsListing}
use Rattle.match_board.specs.Tile.{word}
use Rattle.match_puzzle.specs.PlacementSets.{Shows}
use Rattle.match_puzzle.proofs.placement_sets.showing_set.Given as goal

abbrev pub invariant-loop-number : goal.invariant-loop-number
invariant-loop-number l = IsListing ◌<◌ (λ n. (n / 4 < l.number) × (l.asked ≢ MOST_COLOURS → Shows (slice_index_or (map word l.tiles) (n / 4) []) l.asked l.side (n % 4))) l.set
