use Rattle.std.proofs.Common.{◌≡◌, ℕ, Some, length, slice_get}
use Rattle.match_board.specs.declared.figures.Figure.{Figure}
use Rattle.match_puzzle.specs.Puzzle.{task_by}
use Rattle.match_puzzle.specs.Tables.{IsTurnCount}
use Rattle.match_puzzle.proofs.tables.turn_counts.Given as goal

abbrev pub invariant-loop-tile : goal.invariant-loop-tile
invariant-loop-tile l = record {
  long : length l.table.items ≡ l.tile-index;
  is : (tile count : ℕ) → slice_get l.table.items tile ≡ Some count → (board : Figure) (version : ℕ) → IsTurnCount (task_by board l.rules version l.tiles) tile count;
}
