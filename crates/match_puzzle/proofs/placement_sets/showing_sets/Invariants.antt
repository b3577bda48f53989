use Rattle.std.proofs.Common.{◌≡◌, ◌<◌, ◌/◌, ◌%◌, ℕ, [], map, length, slice_index_or}
use Rattle.match_board.specs.Tile.{word}
use Rattle.match_puzzle.specs.PlacementSets.{AreShowing}
use Rattle.match_puzzle.proofs.placement_sets.showing_sets.Given as goal

abbrev pub invariant-loop-place : goal.invariant-loop-place
invariant-loop-place l = record {
  long : length l.sets.items ≡ l.place;
  is : (place : ℕ) → place < l.place → AreShowing (map word l.tiles) (place / 4) (place % 4) (slice_index_or l.sets.items place []);
}
