use Rattle.std.proofs.Common.{◌≡◌, ◌+◌, ℕ, Option, Some, length}
use Rattle.std.specs.Prelude.{slice_get}
use Rattle.match_board.specs.Board.{cells_above, cells_left}
use Rattle.show_text.specs.Rows.{IsAtPlace}
use Rattle.show_text.specs.declared.faces.Face.{Face}
use Rattle.show_text.proofs.rows.row_of.Given as goal

abbrev pub invariant-loop-place : goal.invariant-loop-place
invariant-loop-place l = record {
  long : length l.places.items ≡ l.place;
  each : (n : ℕ) (at : Option Face) → slice_get l.places.items n ≡ Some at → IsAtPlace l.partial l.mark l.row n at;
  next : l.next ≡ cells_above l.partial.puzzle.board l.row + cells_left l.partial.puzzle.board l.row l.place;
}
