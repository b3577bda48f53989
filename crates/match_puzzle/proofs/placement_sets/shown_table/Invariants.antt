use Rattle.std.proofs.Common.{◌≡◌, ◌<◌, ◌/◌, ◌%◌, ℕ, [], map, length, slice_index_or}
use Rattle.match_board.specs.Tile.{word}
use Rattle.match_puzzle.specs.PlacementSets.{AreColoursAfter}
use Rattle.match_puzzle.proofs.placement_sets.shown_table.Given as goal

abbrev pub invariant-loop-number : goal.invariant-loop-number
invariant-loop-number l = record {
  long : length l.table.items ≡ l.number;
  is : (place : ℕ) → place < l.number → AreColoursAfter (slice_index_or (map word l.tiles) (place / 4) []) (place % 4) (slice_index_or l.table.items place []);
}
