use Rattle.std.proofs.Common.{◌≡◌, ◌<◌, ◌≤◌, ℕ, List, None, Some, slice_get}
use Rattle.match_board.specs.declared.tiles.Tile.{Tile}
use Rattle.match_puzzle.specs.declared.tables.Side.{Side}
use Rattle.match_puzzle.specs.declared.tables.Side.TheVariants.{Border}
use Rattle.match_puzzle.specs.Puzzle.{task_by}
use Rattle.match_puzzle.specs.Tables.{IsSide, IsNextNumber}
use Rattle.match_puzzle.proofs.tables.cell_sides.Given as goal

abbrev pub invariant-loop-side : goal.invariant-loop-side
invariant-loop-side l = record {
  sides : (side : ℕ) (x : Side) → side < l.side → slice_get l.sides side ≡ Some x → (version : ℕ) (tiles : List Tile) → IsSide (task_by l.board l.rules version tiles) l.cell side x;
  outside : (side : ℕ) → l.side ≤ side → side < 4 → slice_get l.sides side ≡ Some (Border None);
  number : IsNextNumber l.board (l.cell, l.side) l.number;
}
