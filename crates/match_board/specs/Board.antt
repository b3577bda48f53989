-- The boards: how cells and sides are numbered, and which sides meet.
use Rattle.std.specs.Prelude.{◌≡◌, ◌⊎◌, ◌<◌, ◌≤◌, ◌↔◌, ◌+◌, ◌-◌, ◌*◌, ◌%◌, ◌++◌, ℕ, zero, suc, List, Bool}
use Rattle.std.specs.Prelude.{true, false, cond, min, length, replicate, slice_index_or}
use Rattle.match_board.specs.declared.figures.Figure.{Figure}
use Rattle.match_board.specs.declared.figures.Figure.TheVariants.{Rectangle, Triangle, Hexagon, Shape}
use Rattle.match_limits.specs.declared.TheConstants.{MOST_CELLS, MOST_PLAIN_CELLS, MOST_PLACES}
use Rattle.match_limits.specs.Listing.{IsListing, ComesBefore, HoldsBefore}

-- how many sides a cell has
abbrev pub side_count : Figure → ℕ
side_count (Rectangle width height) = 4
side_count (Triangle size) = 3
side_count (Hexagon size) = 3
side_count (Shape width height mask) = 4

-- how many rows there are
abbrev pub row_count : Figure → ℕ
row_count (Rectangle width height) = height
row_count (Triangle size) = size
row_count (Hexagon size) = 2 * size
row_count (Shape width height mask) = height

-- how many places a row has; a hexagon's rows grow to the middle and shrink again
abbrev pub row_length : Figure → ℕ → ℕ
row_length (Rectangle width height) row = width
row_length (Triangle size) row = 2 * row + 1
row_length (Hexagon size) row = 2 * size + 1 + 2 * min row (2 * size - 1 - row)
row_length (Shape width height mask) row = width

-- The mask has a cell at this place.
abbrev pub IsMarked : List Bool → ℕ → Type 0
IsMarked mask n = slice_index_or mask n false ≡ true

-- how many cells a mask has at the `more` places from `first` on
abbrev pub marks_from : List Bool → (first more : ℕ) → ℕ
marks_from mask first zero = 0
marks_from mask first (suc more) =
    marks_from mask first more + cond (slice_index_or mask (first + more) false) 1 0

-- There is a cell at the place of the row. A shape's mask says so, row by row; the other boards have a cell at each.
abbrev pub IsFilled : Figure → (row place : ℕ) → Type 0
IsFilled (Rectangle width height) row place = Unit {0}
IsFilled (Triangle size) row place = Unit {0}
IsFilled (Hexagon size) row place = Unit {0}
IsFilled (Shape width height mask) row place = IsMarked mask (row * width + place)

-- how many cells of the row stand left of the place
abbrev pub cells_left : Figure → (row place : ℕ) → ℕ
cells_left (Rectangle width height) row place = place
cells_left (Triangle size) row place = place
cells_left (Hexagon size) row place = place
cells_left (Shape width height mask) row place = marks_from mask (row * width) place

-- how many cells stand in the rows above a row
abbrev pub cells_above : Figure → ℕ → ℕ
cells_above s zero = 0
cells_above s (suc row) = cells_above s row + cells_left s row (row_length s row)

-- how many cells there are
abbrev pub cell_count : Figure → ℕ
cell_count s = cells_above s (row_count s)

-- The cells are numbered row by row, from the top and from the left.
pub record StandsAt (s : Figure) (cell row place : ℕ) : Type 0 where
  pub row_in : row < row_count s
  pub place_in : place < row_length s row
  pub filled : IsFilled s row place
  pub number : cell ≡ cells_above s row + cells_left s row place

-- There is such a place, and a cell at it.
abbrev pub IsPlace : Figure → (row place : ℕ) → Type 0
IsPlace s row place = (row < row_count s) × (place < row_length s row) × IsFilled s row place

-- A triangle points up; then its sides are 0 north-east, 1 south, 2 north-west.
-- Rows begin with one that does, but in the lower half of a hexagon.
abbrev pub PointsUp : Figure → (row place : ℕ) → Type 0
PointsUp (Rectangle width height) row place = ⊥
PointsUp (Triangle size) row place = place % 2 ≡ 0
PointsUp (Hexagon size) row place = ((row < size) × (place % 2 ≡ 0)) ⊎ ((size ≤ row) × (place % 2 ≡ 1))
PointsUp (Shape width height mask) row place = ⊥

-- A triangle points down; then its sides are 0 south-west, 1 north, 2 south-east.
abbrev pub PointsDown : Figure → (row place : ℕ) → Type 0
PointsDown (Rectangle width height) row place = ⊥
PointsDown (Triangle size) row place = place % 2 ≡ 1
PointsDown (Hexagon size) row place = ((row < size) × (place % 2 ≡ 1)) ⊎ ((size ≤ row) × (place % 2 ≡ 0))
PointsDown (Shape width height mask) row place = ⊥

-- The place in the next row that lies below a triangle that points up.
abbrev pub LiesBelow : Figure → (row place below : ℕ) → Type 0
LiesBelow (Rectangle width height) row place below = ⊥
LiesBelow (Triangle size) row place below = below ≡ place + 1
LiesBelow (Hexagon size) row place below =
    ((row + 1 < size) × (below ≡ place + 1))
    ⊎ ((row + 1 ≡ size) × (below ≡ place))
    ⊎ ((size ≤ row) × (below + 1 ≡ place))
LiesBelow (Shape width height mask) row place below = ⊥

-- Sides of triangles that meet have the same number.
abbrev pub TrianglesLieBefore : Figure → (row place side row' place' side' : ℕ) → Type 0
TrianglesLieBefore s row place side row' place' side' =
    -- one that points up, and the one at its right
    (PointsUp s row place × (side ≡ 0) × (side' ≡ 0) × (row' ≡ row) × (place' ≡ place + 1))
    -- one that points down, and the one at its right
    ⊎ (PointsDown s row place × (side ≡ 2) × (side' ≡ 2) × (row' ≡ row) × (place' ≡ place + 1))
    -- one that points up, and the one below it
    ⊎ (PointsUp s row place × (side ≡ 1) × (side' ≡ 1) × (row' ≡ row + 1) × LiesBelow s row place place')

-- Sides of squares that meet lie opposite each other.
abbrev pub SquaresLieBefore : (row place side row' place' side' : ℕ) → Type 0
SquaresLieBefore row place side row' place' side' =
    -- east against west
    ((side ≡ 1) × (side' ≡ 3) × (row' ≡ row) × (place' ≡ place + 1))
    -- south against north
    ⊎ ((side ≡ 2) × (side' ≡ 0) × (row' ≡ row + 1) × (place' ≡ place))

-- One side of a place lies against one side of the place at its right or below it.
abbrev pub LiesBefore : Figure → (row place side row' place' side' : ℕ) → Type 0
LiesBefore (Rectangle width height) row place side row' place' side' =
    SquaresLieBefore row place side row' place' side'
LiesBefore (Shape width height mask) row place side row' place' side' =
    SquaresLieBefore row place side row' place' side'
LiesBefore (Triangle size) row place side row' place' side' =
    TrianglesLieBefore (Triangle size) row place side row' place' side'
LiesBefore (Hexagon size) row place side row' place' side' =
    TrianglesLieBefore (Hexagon size) row place side row' place' side'

-- The side of the one place lies against that of the other, whichever place is further left or above.
abbrev pub LiesAgainst : Figure → (row place side row' place' side' : ℕ) → Type 0
LiesAgainst s row place side row' place' side' =
    LiesBefore s row place side row' place' side' ⊎ LiesBefore s row' place' side' row place side

-- The side of the one cell meets that of the other.
pub record Meets (s : Figure) (cell side cell' side' : ℕ) : Type 0 where
  pub row : ℕ
  pub place : ℕ
  pub row' : ℕ
  pub place' : ℕ
  pub here : StandsAt s cell row place
  pub there : StandsAt s cell' row' place'
  pub against : LiesAgainst s row place side row' place' side'

-- a side of a cell that meets nothing
pub record IsBorderPair (s : Figure) (cell side : ℕ) : Type 0 where
  pub cell_in : cell < cell_count s
  pub side_in : side < side_count s
  pub meets_nothing : (cell' side' : ℕ) → Meets s cell side cell' side' → ⊥

-- all border pairs, by cell, then by side
abbrev pub IsBorderOrder : Figure → List (ℕ × ℕ) → Type 0
IsBorderOrder s pairs = IsListing ComesBefore (λ pair. IsBorderPair s pair.0 pair.1) pairs

-- the border pairs before this one
abbrev pub IsBorderBefore : Figure → ℕ × ℕ → List (ℕ × ℕ) → Type 0
IsBorderBefore s n pairs =
    IsListing ComesBefore (HoldsBefore (λ pair. pair) (λ pair. IsBorderPair s pair.0 pair.1) n) pairs

-- not too many cells, and of a shape not too many places either
abbrev pub HasRoom : Figure → Type 0
HasRoom (Rectangle width height) = cell_count (Rectangle width height) ≤ MOST_PLAIN_CELLS
HasRoom (Triangle size) = cell_count (Triangle size) ≤ MOST_PLAIN_CELLS
HasRoom (Hexagon size) = cell_count (Hexagon size) ≤ MOST_PLAIN_CELLS
HasRoom (Shape width height mask) =
    (height * width ≤ MOST_PLACES) × (cell_count (Shape width height mask) ≤ MOST_CELLS)

-- the mask with these marks; a board keeps `MOST_PLACES` of them, and those behind the rectangle's are unmarked
abbrev pub mask_of : List Bool → List Bool
mask_of marks = marks ++ replicate (MOST_PLACES - length marks) false

-- the shape with just these cells, of the places of a rectangle, row by row
abbrev pub shape_of : (width height : ℕ) → List Bool → Figure
shape_of width height marks = Shape width height (mask_of marks)

-- A shape's mask marks places of its rectangle alone, so that it is known by its width, its height and its cells.
abbrev pub MarksItsPlaces : Figure → Type 0
MarksItsPlaces (Rectangle width height) = Unit {0}
MarksItsPlaces (Triangle size) = Unit {0}
MarksItsPlaces (Hexagon size) = Unit {0}
MarksItsPlaces (Shape width height mask) =
    (marks : List Bool) × (length marks ≡ height * width) × (mask ≡ mask_of marks)

-- at least one cell, and not too many
pub record IsBoard (s : Figure) : Type 0 where
  pub some : 1 ≤ cell_count s
  pub most : cell_count s ≤ MOST_CELLS
  pub room : HasRoom s
  pub marks : MarksItsPlaces s

-- a rectangle, a triangle or a hexagon
abbrev pub IsPlain : Figure → Type 0
IsPlain (Rectangle width height) = Unit {0}
IsPlain (Triangle size) = Unit {0}
IsPlain (Hexagon size) = Unit {0}
IsPlain (Shape width height mask) = ⊥

-- any other board: some of the squares of a rectangle
abbrev pub IsShape : Figure → Type 0
IsShape s = IsPlain s → ⊥

-- Two boards have as many cells, with as many sides each, and the same sides meet.
pub record AreAlike (s t : Figure) : Type 0 where
  pub cells : cell_count s ≡ cell_count t
  pub sides : side_count s ≡ side_count t
  pub meet : (cell side cell' side' : ℕ) → Meets s cell side cell' side' ↔ Meets t cell side cell' side'

-- a rectangle as the shape with every cell of it, and the other boards as they are
abbrev pub second_figure : Figure → Figure
second_figure (Rectangle width height) = shape_of width height (replicate (height * width) true)
second_figure (Triangle size) = Triangle size
second_figure (Hexagon size) = Hexagon size
second_figure (Shape width height mask) = Shape width height mask
