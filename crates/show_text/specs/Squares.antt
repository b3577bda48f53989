-- Boards of squares, drawn: with 43 (`+`) at corners, 45 (`-`) and 124 (`|`) on edges.
use Rattle.std.specs.Prelude.{ℕ, ◌+◌, List, [], ◌∷◌, ◌++◌, Option, Some, None, Bool, false, ◌||◌, if◌then◌else◌, map}
use Rattle.std.specs.Prelude.{replicate, slice_index, slice_index_or, option_map, is_some}
use Rattle.std.specs.List.{range_with_len}
use Rattle.show_text.specs.declared.faces.Face.{Face}
use Rattle.show_text.specs.declared.squares.Part.{Part}
use Rattle.show_text.specs.declared.squares.Part.TheVariants.{Top, Middle, Bottom}
use Rattle.show_text.specs.Pieces.{spaces, padded, star}

-- how wide a square is between its posts
abbrev pub inside_width : (digits : ℕ) → ℕ
inside_width digits = digits + 6

-- What is inside a square, line by line: its number, a star where it is marked, and the sign at its north side; the
-- tile between the signs at its west and its east side; the sign at its south side. Cell 7 is marked, and tile 12 stands
-- there and shows 0 1 2 3:
--
--     +--------+
--     | 7* 0   |
--     | 3 12 1 |
--     |    2   |
--     +--------+
abbrev pub square_part : (digits : ℕ) → Part → Face → List ℕ
square_part digits Top face =
    padded digits (Some face.cell) ++ star face.marked ∷ 32 ∷ slice_index face.signs 0 ∷ spaces 3
square_part digits Middle face =
    (32 ∷ slice_index face.signs 3 ∷ 32 ∷ padded digits face.tile) ++ 32 ∷ slice_index face.signs 1 ∷ 32 ∷ []
square_part digits Bottom face = spaces (digits + 2) ++ slice_index face.signs 2 ∷ spaces 3

-- ---- pieces beside each other, with a post at each side of each

-- the post behind a piece; a space where there is none
abbrev pub post_after : (sign : ℕ) → (before : Bool) → ℕ
post_after sign before = if before then sign else 32

-- a piece with the post before it, and spaces where there is none
abbrev pub posted : (sign width : ℕ) → (before : Bool) → Option (List ℕ) → List ℕ
posted sign width before None = post_after sign before ∷ spaces width
posted sign width before (Some piece) = sign ∷ piece

-- the pieces behind one that is there, or isn't
abbrev pub fenced : (sign width : ℕ) → (before : Bool) → List (Option (List ℕ)) → List ℕ
fenced sign width before [] = post_after sign before ∷ []
fenced sign width before (piece ∷ pieces) =
    posted sign width before piece ++ fenced sign width (is_some piece) pieces

-- ---- lines

-- There is a cell at the column of the row.
abbrev pub has_cell : List (Option Face) → ℕ → Bool
has_cell places column = is_some (slice_index_or places column None)

-- the edge of one column, where it is there
abbrev pub dashes : (digits : ℕ) → (there : Bool) → Option (List ℕ)
dashes digits there = if there then Some (replicate (inside_width digits) 45) else None

-- the edge of a column: it is there where a cell stands above it or below it
abbrev pub edge_piece : (digits : ℕ) → (above below : List (Option Face)) → (column : ℕ) → Option (List ℕ)
edge_piece digits above below column = dashes digits (has_cell above column || has_cell below column)

-- the edge between two rows
abbrev pub edge_line : (digits columns : ℕ) → (above below : List (Option Face)) → List ℕ
edge_line digits columns above below =
    fenced 43 (inside_width digits) false (map (edge_piece digits above below) (range_with_len 0 columns))

-- a line through the squares of a row
abbrev pub part_line : (digits : ℕ) → Part → List (Option Face) → List ℕ
part_line digits part places = fenced 124 (inside_width digits) false (map (option_map (square_part digits part)) places)

-- the lines through the squares of a row
abbrev pub row_lines : (digits : ℕ) → List (Option Face) → List (List ℕ)
row_lines digits places =
    part_line digits Top places ∷ part_line digits Middle places ∷ part_line digits Bottom places ∷ []

-- ---- the board

-- rows, one below the other and below this one, with an edge above each and below the last
abbrev pub square_lines : (digits columns : ℕ) → (above : List (Option Face)) → List (List (Option Face))
    → List (List ℕ)
square_lines digits columns above [] = edge_line digits columns above [] ∷ []
square_lines digits columns above (places ∷ rows) =
    edge_line digits columns above places ∷ (row_lines digits places ++ square_lines digits columns places rows)
