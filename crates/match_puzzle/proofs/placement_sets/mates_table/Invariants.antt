use Rattle.std.proofs.Common.{◌≡◌, ◌<◌, ℕ, [], length, slice_index, slice_index_or}
use Rattle.match_board.specs.Mates.{mate_in}
use Rattle.match_puzzle.proofs.placement_sets.mates_table.Given as goal

abbrev pub invariant-loop-colours : goal.invariant-loop-colours
invariant-loop-colours l = record {
  long : length l.table.items ≡ l.colours-index;
  is : (place : ℕ) → place < l.colours-index → (side : ℕ) → side < 4 → slice_index (slice_index_or l.table.items place []) side ≡ mate_in l.mates (slice_index (slice_index_or l.shown place []) side);
}
