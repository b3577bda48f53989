-- Boards, drawn.
use Rattle.std.specs.Prelude.{◌≡◌, ℕ, List, [], ◌∷◌, Option, nat_le, if◌then◌else◌, length}
use Rattle.match_board.specs.declared.figures.Figure.{Figure}
use Rattle.match_board.specs.declared.figures.Figure.TheVariants.{Rectangle, Triangle, Hexagon, Shape}
use Rattle.match_puzzle.specs.Prefix.{Layout}
use Rattle.show_text.specs.declared.faces.Face.{Face}
use Rattle.show_text.specs.Pieces.{sheet_text}
use Rattle.show_text.specs.Rows.{AreRows}
use Rattle.show_text.specs.Squares.{square_lines}
use Rattle.show_text.specs.Triangles.{roof_line, triangle_lines}

-- how many digits the greatest number below `count` has, where `count` is at most 1,000
abbrev pub digits_of : ℕ → ℕ
digits_of count = if nat_le count 10 then 1 else (if nat_le count 100 then 2 else 3)

-- the lines of the board with these rows, each with the spaces at its end, for `tiles` tiles; there are no more cells
abbrev pub board_lines : (tiles : ℕ) → Figure → List (List (Option Face)) → List (List ℕ)
board_lines tiles (Rectangle width height) rows = square_lines (digits_of tiles) width [] rows
board_lines tiles (Triangle size) rows = triangle_lines size 0 rows
board_lines tiles (Hexagon size) rows = roof_line size ∷ triangle_lines size 0 rows
board_lines tiles (Shape width height mask) rows = square_lines (digits_of tiles) width [] rows

-- the text is the board of a partial arrangement, drawn, where this cell is marked
pub record IsDrawing (q : Layout) (mark : Option ℕ) (text : List ℕ) : Type 0 where
  pub rows : List (List (Option Face))
  pub seen : AreRows q mark rows
  pub drawn : text ≡ sheet_text (board_lines (length q.puzzle.words) q.puzzle.board rows)
