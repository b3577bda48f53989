-- The faces of cells, row by row.
use Rattle.std.specs.Prelude.{◌≡◌, ℕ, List, Option, Some, None, length, slice_get}
use Rattle.match_board.specs.Board.{row_count, row_length, StandsAt, IsFilled}
use Rattle.match_puzzle.specs.Prefix.{Layout}
use Rattle.show_text.specs.declared.faces.Face.{Face}
use Rattle.show_text.specs.Face.{IsFace}

-- what is at a place of a row: the face of the cell that stands there, or nothing where none does
abbrev pub IsAtPlace : Layout → (mark : Option ℕ) → (row place : ℕ) → Option Face → Type 0
IsAtPlace q mark row place None = IsFilled q.puzzle.board row place → ⊥
IsAtPlace q mark row place (Some face) = StandsAt q.puzzle.board face.cell row place × IsFace q mark face

-- what is at each place of a row, from the left
pub record IsRow (q : Layout) (mark : Option ℕ) (row : ℕ) (places : List (Option Face)) : Type 0 where
  pub long : length places ≡ row_length q.puzzle.board row
  pub each : (place : ℕ) (at : Option Face) → slice_get places place ≡ Some at → IsAtPlace q mark row place at

-- each row of the board, from the top
pub record AreRows (q : Layout) (mark : Option ℕ) (rows : List (List (Option Face))) : Type 0 where
  pub long : length rows ≡ row_count q.puzzle.board
  pub each : (row : ℕ) (places : List (Option Face)) → slice_get rows row ≡ Some places → IsRow q mark row places
