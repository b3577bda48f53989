use Rattle.std.proofs.Common.{◌≡◌, ◌<◌, ◌≤◌, ℕ, List, None, Some, length, slice_get}
use Rattle.match_board.specs.Board.{side_count}
use Rattle.match_board.specs.declared.tiles.Tile.{Tile}
use Rattle.match_puzzle.specs.declared.tables.Side.{Side}
use Rattle.match_puzzle.specs.declared.tables.Side.TheVariants.{Border}
use Rattle.match_puzzle.specs.declared.tables.CellSides.{CellSides}
use Rattle.match_puzzle.specs.Puzzle.{task_by}
use Rattle.match_puzzle.specs.Tables.{IsSide, AreAskedAt, IsNextNumber}
use Rattle.match_puzzle.proofs.tables.sides_table.Given as goal

abbrev pub invariant-loop-cell : goal.invariant-loop-cell
invariant-loop-cell l = record {
  long : length l.table.items ≡ l.cell;
  is : (cell side : ℕ) (sides : CellSides) (x : Side) → slice_get l.table.items cell ≡ Some sides → side < side_count l.board → slice_get sides.sides side ≡ Some x
      → (version : ℕ) (tiles : List Tile) → IsSide (task_by l.board l.rules version tiles) cell side x;
  outside : (cell side : ℕ) (sides : CellSides) → slice_get l.table.items cell ≡ Some sides → side_count l.board ≤ side → side < 4 → slice_get sides.sides side ≡ Some (Border None);
  asked : (cell : ℕ) (sides : CellSides) → slice_get l.table.items cell ≡ Some sides → AreAskedAt sides.sides sides.asked_at;
  number : IsNextNumber l.board (l.cell, 0) l.number;
}
