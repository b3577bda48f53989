-- Where things stand in a drawing.
use Rattle.std.specs.Prelude.{◌≡◌, ◌<◌, ◌+◌, ◌*◌, ◌++◌, ℕ, zero, suc, List, Option, Some, Bool, not, length, nat_lt, slice_get}
use Rattle.std.specs.Prelude.{slice_index}
use Rattle.match_board.specs.Board.{cell_count, side_count, StandsAt}
use Rattle.match_board.specs.declared.figures.Figure.{Figure}
use Rattle.match_board.specs.declared.figures.Figure.TheVariants.{Rectangle, Triangle, Hexagon, Shape}
use Rattle.match_puzzle.specs.Puzzle.{IsPuzzle}
use Rattle.match_puzzle.specs.Prefix.{Layout, IsPrefix}
use Rattle.show_text.specs.declared.faces.Face.{Face}
use Rattle.show_text.specs.declared.squares.Part.TheVariants.{Top, Middle, Bottom}
use Rattle.show_text.specs.declared.triangles.Level.{Level}
use Rattle.show_text.specs.Face.{IsFace}
use Rattle.show_text.specs.Rows.{AreRows}
use Rattle.show_text.specs.Squares.{square_part}
use Rattle.show_text.specs.Triangles.{triangle_part, own_level, turned, above_base, rows_in}
use Rattle.show_text.specs.Drawing.{board_lines, digits_of, IsDrawing}

-- The line has these bytes from this column on.
pub record HasAt (lines : List (List ℕ)) (line column : ℕ) (bytes : List ℕ) : Type 0 where
  pub before : List ℕ
  pub after : List ℕ
  pub line_is : slice_get lines line ≡ Some (before ++ bytes ++ after)
  pub column_is : length before ≡ column

-- The lines have what is inside a square: 4 lines to a row, and a post before each column.
pub record HasSquare (lines : List (List ℕ)) (digits row place : ℕ) (face : Face) : Type 0 where
  pub top : HasAt lines (4 * row + 1) ((digits + 7) * place + 1) (square_part digits Top face)
  pub middle : HasAt lines (4 * row + 2) ((digits + 7) * place + 1) (square_part digits Middle face)
  pub bottom : HasAt lines (4 * row + 3) ((digits + 7) * place + 1) (square_part digits Bottom face)

-- whether the triangle at this place of a row points up, where `first_up` says whether the row's first one does
abbrev pub points_up : (first_up : Bool) → (place : ℕ) → Bool
points_up up zero = up
points_up up (suc place) = points_up (not up) place

-- The lines have what is inside a triangle: 5 lines to a row, below the first lines of all, and the slant before it.
abbrev pub HasTriangle : (lines : List (List ℕ)) → (first size row place : ℕ) → Face → Type 0
HasTriangle lines first size row place face =
    let up = points_up (nat_lt row size) place in
    (level : Level) → HasAt lines
    (first + 5 * row + above_base (turned level))
    (5 * (rows_in size row + place) + above_base (own_level up level) + 1)
    (triangle_part up (own_level up level) face)

-- The lines of a board for `tiles` tiles have the cell with this face at its place.
abbrev pub HasFace : (tiles : ℕ) → Figure → (lines : List (List ℕ)) → (row place : ℕ) → Face → Type 0
HasFace tiles (Rectangle width height) lines row place face = HasSquare lines (digits_of tiles) row place face
HasFace tiles (Triangle size) lines row place face = HasTriangle lines 0 size row place face
HasFace tiles (Hexagon size) lines row place face = HasTriangle lines 1 size row place face
HasFace tiles (Shape width height mask) lines row place face = HasSquare lines (digits_of tiles) row place face

-- In the lines of a drawing what is seen of each cell stands at its place.
abbrev pub DrawingLaw : Type 0
DrawingLaw =
    (q : Layout) (mark : Option ℕ) (rows : List (List (Option Face))) → IsPuzzle q.puzzle → IsPrefix q.puzzle q.placed
    → AreRows q mark rows → (cell row place : ℕ) → StandsAt q.puzzle.board cell row place
    → (face : Face) × (face.cell ≡ cell) × IsFace q mark face
    × HasFace (length q.puzzle.words) q.puzzle.board (board_lines (length q.puzzle.words) q.puzzle.board rows) row place
    face

-- Two faces of one cell with `sides` sides look the same: its mark, its tile, and the sign at each side.
pub record ShowAlike (sides : ℕ) (face other : Face) : Type 0 where
  pub cell : face.cell ≡ other.cell
  pub marked : face.marked ≡ other.marked
  pub tile : face.tile ≡ other.tile
  pub signs : (side : ℕ) → side < sides → slice_index face.signs side ≡ slice_index other.signs side

-- Where drawings of a board for as many tiles are the same text, the same is seen of each cell.
abbrev pub TellingLaw : Type 0
TellingLaw =
    (q q' : Layout) (mark mark' : Option ℕ) (text : List ℕ) → IsPuzzle q.puzzle → IsPrefix q.puzzle q.placed
    → IsPuzzle q'.puzzle → IsPrefix q'.puzzle q'.placed → q'.puzzle.board ≡ q.puzzle.board
    → length q'.puzzle.words ≡ length q.puzzle.words
    → IsDrawing q mark text → IsDrawing q' mark' text → (cell row place : ℕ) → StandsAt q.puzzle.board cell row place
    → (face other : Face) × (face.cell ≡ cell) × IsFace q mark face × IsFace q' mark' other
    × ShowAlike (side_count q.puzzle.board) face other
