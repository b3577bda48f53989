-- What shows at each cell what is asked there, by number: four turns to a tile.
use Rattle.std.specs.Prelude.{◌≡◌, ◌<◌, ◌≤◌, ◌+◌, ◌*◌, ◌/◌, ◌%◌, ℕ, List, [], Contains, length, slice_index_or}
use Rattle.match_limits.specs.declared.TheConstants.{MOST_CELLS, MOST_TILES}
use Rattle.match_board.specs.Board.{cell_count, Meets}
use Rattle.match_limits.specs.Listing.{IsListing}
use Rattle.match_puzzle.specs.Puzzle.{Task, IsLegal, colour_of, mate_of}
use Rattle.match_puzzle.specs.Prefix.{Prefix, IsFree, with_pair}
use Rattle.match_puzzle.specs.Fitting.{IsAsked}
use Rattle.match_puzzle.specs.PlacementSets.{numbered}
use Rattle.match_puzzle.specs.declared.items.Item.{Item}
use Rattle.match_puzzle.specs.declared.items.Item.TheVariants.{Cell, Tile}
use Rattle.match_puzzle.specs.declared.placements.Pair.{Pair}

-- The cell is empty, and the placement is legal and shows there what is asked, whether its tile is used or not.
pub record StandsInRow (p : Task) (q : Prefix) (cell number : ℕ) : Type 0 where
  pub free : IsFree q cell
  pub legal : IsLegal p (numbered number)
  pub shows : (side colour : ℕ) → IsAsked p q cell side colour → colour_of p (numbered number) side ≡ colour

-- all numbers of placements that stand in the cell's row, rising
abbrev pub IsRow : Task → Prefix → (cell : ℕ) → List ℕ → Type 0
IsRow p q cell numbers = IsListing ◌<◌ (StandsInRow p q cell) numbers

-- The item can be counted in the rows: a cell that has one, or a tile that there may be.
abbrev pub HasRowsOf : List (List ℕ) → Item → Type 0
HasRowsOf rows (Cell cell) = cell < length rows
HasRowsOf rows (Tile tile) = tile < MOST_TILES

-- The rows have this many placements at the cell, or of the tile.
abbrev pub IsCountIn : List (List ℕ) → Item → (count : ℕ) → Type 0
IsCountIn rows (Cell cell) count = length (slice_index_or rows cell []) ≡ count
IsCountIn rows (Tile tile) count =
    (places : List ℕ) × IsListing ◌<◌ (λ n. (n / 4 < length rows)
    × Contains (slice_index_or rows (n / 4) []) (4 * tile + n % 4)) places × (length places ≡ count)

-- a row for each cell
pub record AreRows (p : Task) (q : Prefix) (rows : List (List ℕ)) : Type 0 where
  pub long : length rows ≡ cell_count p.board
  pub is : (cell : ℕ) → cell < cell_count p.board → IsRow p q cell (slice_index_or rows cell [])

-- A pair is placed, and its first `sides` sides are looked at: the cell is empty, and the placement is legal and shows
-- there what was asked before the pair, and what these sides ask.
pub record StandsBeside (p : Task) (q : Prefix) (x : Pair) (sides cell number : ℕ) : Type 0 where
  pub free : IsFree (with_pair q x.cell x.placement) cell
  pub legal : IsLegal p (numbered number)
  pub shows : (side colour : ℕ) → IsAsked p q cell side colour → colour_of p (numbered number) side ≡ colour
  pub beside : (side met : ℕ) → side < sides → Meets p.board x.cell side cell met
      → colour_of p (numbered number) met ≡ mate_of p (colour_of p x.placement side)

-- for each cell a row of all placements that may stand there, where the first `sides` sides of the pair are looked at
pub record AreRowsBeside (p : Task) (q : Prefix) (x : Pair) (sides : ℕ) (rows : List (List ℕ)) : Type 0 where
  pub long : length rows ≡ cell_count p.board
  pub is : (cell : ℕ) → cell < cell_count p.board
      → IsListing ◌<◌ (StandsBeside p q x sides cell) (slice_index_or rows cell [])

-- No side of the one cell meets the other.
abbrev pub IsNotMet : Task → (cell other : ℕ) → Type 0
IsNotMet p cell other = (side met : ℕ) → Meets p.board cell side other met → ⊥

-- Each cell has its row, but for this one and those that it meets.
pub record AreRowsElsewhere (p : Task) (q : Prefix) (cell : ℕ) (rows : List (List ℕ)) : Type 0 where
  pub long : length rows ≡ cell_count p.board
  pub is : (other : ℕ) → other < cell_count p.board → (other ≡ cell → ⊥) → IsNotMet p cell other
      → IsRow p q other (slice_index_or rows other [])

-- rows of cells, those of all cells but these empty
pub record AreOpenRows (rows : List (List ℕ)) (cells : List ℕ) : Type 0 where
  pub most : length rows ≤ MOST_CELLS
  pub within : (cell : ℕ) → Contains cells cell → cell < length rows
  pub others : (cell : ℕ) → (Contains cells cell → ⊥) → slice_index_or rows cell [] ≡ []
