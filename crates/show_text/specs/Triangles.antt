-- Boards of triangles, drawn: with 47 (`/`), 92 (`\`) and 95 (`_`) on their sides.
use Rattle.std.specs.Prelude.{ℕ, zero, suc, ◌+◌, ◌-◌, ◌*◌, List, [], ◌∷◌, ◌++◌, Option, Some, None, Bool, true, false, not}
use Rattle.std.specs.Prelude.{if◌then◌else◌, nat_lt, ◌==◌, replicate, slice_index}
use Rattle.show_text.specs.declared.faces.Face.{Face}
use Rattle.show_text.specs.declared.triangles.Level.{Level}
use Rattle.show_text.specs.declared.triangles.Level.TheVariants.{Tip, Blank, Number, Tile, Base}
use Rattle.show_text.specs.Pieces.{spaces, padded, star}

-- the level as seen from the base
abbrev pub turned : Level → Level
turned Tip = Base
turned Blank = Tile
turned Number = Number
turned Tile = Blank
turned Base = Tip

-- the level of a triangle that points up or down, in the line in which those that point up have this one
abbrev pub own_level : (up : Bool) → Level → Level
own_level up level = if up then level else turned level

-- how many lines lie between a level and the base
abbrev pub above_base : Level → ℕ
above_base Tip = 4
above_base Blank = 3
above_base Number = 2
above_base Tile = 1
above_base Base = 0

-- the slant at the left of a triangle that points up or down, and at the right of one that points the other way
abbrev pub slant : (up : Bool) → ℕ
slant up = if up then 47 else 92

-- the level side of a triangle that points up is drawn inside it, and that of one that points down above it
abbrev pub level_stroke : (up : Bool) → ℕ
level_stroke up = if up then 95 else 32

-- a sign on a stroke, or the stroke where the sign is a space
abbrev pub sign_on : (stroke sign : ℕ) → ℕ
sign_on stroke sign = if sign == 32 then stroke else sign

-- a cell's number, and a star where it is marked
abbrev pub number_part : Face → List ℕ
number_part face = (32 ∷ padded 2 (Some face.cell)) ++ star face.marked ∷ []

-- What is inside a triangle, from the tip to the base: nothing; blanks; its number, and a star where it is marked; the
-- tile between the signs at its left and its right side; the sign at its level side. Cell 7 is marked, and tile 12 stands
-- there and shows 0 1 2; nothing stands at cell 8:
--
--         /\        /
--        /  \      /
--       /  7*\  8 /
--      /2 12 0\  /
--     /____1___\/
abbrev pub triangle_part : (up : Bool) → Level → Face → List ℕ
triangle_part up Tip face = []
triangle_part up Blank face = spaces 2
triangle_part up Number face = number_part face
triangle_part true Tile face =
    (slice_index face.signs 2 ∷ padded 3 face.tile) ++ 32 ∷ slice_index face.signs 0 ∷ []
triangle_part false Tile face =
    (slice_index face.signs 0 ∷ padded 3 face.tile) ++ 32 ∷ slice_index face.signs 2 ∷ []
triangle_part up Base face =
    replicate 4 (level_stroke up) ++ sign_on (level_stroke up) (slice_index face.signs 1) ∷ replicate 3 (level_stroke up)

-- ---- lines

-- a triangle with the slant before it; the slant alone where there is none
abbrev pub crossed_piece : Level → (up : Bool) → Option Face → List ℕ
crossed_piece level up None = slant up ∷ []
crossed_piece level up (Some face) = slant up ∷ triangle_part up (own_level up level) face

-- the triangles of a row, which point up and down in turn, and the last slant
abbrev pub crossed : Level → (up : Bool) → List (Option Face) → List ℕ
crossed level up [] = slant up ∷ []
crossed level up (place ∷ places) = crossed_piece level up place ++ crossed level (not up) places

-- By how many rows the row is away from the longest of its half of the board. Rows of the upper half begin with a
-- triangle that points up.
abbrev pub rows_in : (size row : ℕ) → ℕ
rows_in size row = if nat_lt row size then size - 1 - row else row - size

-- the line through a row in which triangles that point up have this level
abbrev pub level_line : (size row : ℕ) → Level → List (Option Face) → List ℕ
level_line size row level places =
    let up = nat_lt row size in
    spaces (5 * rows_in size row + above_base (own_level up level)) ++ crossed level up places

-- the lines through a row
abbrev pub row_lines : (size row : ℕ) → List (Option Face) → List (List ℕ)
row_lines size row places =
    level_line size row Tip places
    ∷ level_line size row Blank places
    ∷ level_line size row Number places
    ∷ level_line size row Tile places
    ∷ level_line size row Base places
    ∷ []

-- the northern sides of this number of triangles that point down, beside each other
abbrev pub roofs : ℕ → List ℕ
roofs zero = []
roofs (suc more) = (spaces 2 ++ replicate 8 95) ++ roofs more

-- the line above a hexagon
abbrev pub roof_line : (size : ℕ) → List ℕ
roof_line size = spaces (5 * rows_in size 0 + 4) ++ roofs size

-- ---- the board

-- rows, one below the other, from this one on
abbrev pub triangle_lines : (size row : ℕ) → List (List (Option Face)) → List (List ℕ)
triangle_lines size row [] = []
triangle_lines size row (places ∷ rows) = row_lines size row places ++ triangle_lines size (row + 1) rows
