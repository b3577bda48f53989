use Rattle.std.proofs.Common.{◌≡◌, ℕ, List, Option, Some, length}
use Rattle.std.specs.Prelude.{slice_get}
use Rattle.match_board.specs.Board.{cells_above}
use Rattle.show_text.specs.Rows.{IsRow}
use Rattle.show_text.specs.declared.faces.Face.{Face}
use Rattle.show_text.proofs.rows.rows_of.Given as goal

abbrev pub invariant-loop-row : goal.invariant-loop-row
invariant-loop-row l = record {
  long : length l.found.items ≡ l.row;
  each : (n : ℕ) (places : List (Option Face)) → slice_get l.found.items n ≡ Some places → IsRow l.partial l.mark n places;
  next : l.next ≡ cells_above l.partial.puzzle.board l.row;
}
