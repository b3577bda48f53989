-- Arrangements of a puzzle: a placement for each cell.
use Rattle.std.specs.Prelude.{◌≡◌, ◌<◌, ◌↔◌, ℕ, List, Some, Contains, length, slice_get}
use Rattle.match_board.specs.Board.{cell_count, Meets}
use Rattle.match_puzzle.specs.Puzzle.{Task, colour_of, GoTogether, IsLegal, HasRule}
use Rattle.match_puzzle.specs.declared.placements.Placement.{Placement}

-- The placement stands at the cell.
abbrev pub Stands : List Placement → ℕ → Placement → Type 0
Stands a cell x = slice_get a cell ≡ Some x

-- Each placement names a tile of the puzzle.
abbrev pub HaveTiles : Task → List Placement → Type 0
HaveTiles p a = (cell : ℕ) (x : Placement) → Stands a cell x → x.tile < length p.words

-- Each placement is legal.
abbrev pub AreLegal : Task → List Placement → Type 0
AreLegal p a = (cell : ℕ) (x : Placement) → Stands a cell x → IsLegal p x

-- No tile stands at two cells.
abbrev pub StandOnce : List Placement → Type 0
StandOnce a = (cell cell' : ℕ) (x y : Placement) → Stands a cell x → Stands a cell' y → x.tile ≡ y.tile → cell ≡ cell'

-- Each border pair with a rule shows that colour.
abbrev pub ObeyBorder : Task → List Placement → Type 0
ObeyBorder p a =
    (cell side colour : ℕ) (x : Placement) → Stands a cell x → HasRule p cell side colour → colour_of p x side ≡ colour

-- The side matches the side that it meets, if it meets one.
abbrev pub MatchesEdgeAt : Task → List Placement → (cell side : ℕ) → Type 0
MatchesEdgeAt p a cell side =
    (cell' side' : ℕ) (x y : Placement) → Meets p.board cell side cell' side' → Stands a cell x → Stands a cell' y
    → GoTogether p (colour_of p x side) (colour_of p y side')

-- Sides that meet match.
abbrev pub MatchEdges : Task → List Placement → Type 0
MatchEdges p a = (cell side : ℕ) → MatchesEdgeAt p a cell side

-- A legal placement for each cell, no tile at two cells, the border as asked, and sides that meet match (MacMahon 1921).
pub record IsArrangement (p : Task) (a : List Placement) : Type 0 where
  pub cells : length a ≡ cell_count p.board
  pub legal : AreLegal p a
  pub once : StandOnce a
  pub border : ObeyBorder p a
  pub edges : MatchEdges p a

-- Each tile of the puzzle stands at a cell.
abbrev pub AreAllPlaced : Task → List Placement → Type 0
AreAllPlaced p a = (tile : ℕ) → tile < length p.words → (cell : ℕ) × (x : Placement) × Stands a cell x × (x.tile ≡ tile)

-- Where there are as many tiles as cells, an arrangement has each tile.
abbrev pub AllTilesArePlaced : Type 0
AllTilesArePlaced =
    (p : Task) (a : List Placement) → length p.words ≡ cell_count p.board → IsArrangement p a → AreAllPlaced p a

-- Each listed one is an arrangement of the puzzle.
abbrev pub AreArrangements : Task → List (List Placement) → Type 0
AreArrangements p listed = (number : ℕ) (a : List Placement) → slice_get listed number ≡ Some a → IsArrangement p a

-- No two places have the same.
abbrev pub AreDistinct : {X : Type 0} → List X → Type 0
AreDistinct {X} xs =
    (place other : ℕ) (x : X) → slice_get xs place ≡ Some x → slice_get xs other ≡ Some x → place ≡ other

-- The puzzle has `count` arrangements: there is a list of them all, each once, and `count` is its length.
pub record HasArrangements (p : Task) (count : ℕ) : Type 0 where
  pub all : List (List Placement)
  pub just : (a : List Placement) → Contains all a ↔ IsArrangement p a
  pub once : AreDistinct all
  pub counted : count ≡ length all
