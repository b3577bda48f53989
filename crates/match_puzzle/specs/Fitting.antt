-- What fits a prefix.
use Rattle.std.specs.Prelude.{◌≡◌, ◌⊎◌, ◌<◌, ◌≤◌, ◌+◌, ◌/◌, ◌%◌, ℕ, List, Option, IfSome, length}
use Rattle.match_board.specs.Board.{cell_count, Meets}
use Rattle.match_limits.specs.Listing.{IsListing, ByKey}
use Rattle.match_puzzle.specs.Puzzle.{Task, AllHaveToStand, colour_of, mate_of, GoTogether, IsLegal, HasRule}
use Rattle.match_puzzle.specs.Prefix.{Prefix, Has, IsFree, IsUnused}
use Rattle.match_puzzle.specs.declared.placements.Placement.{Placement}
use Rattle.match_puzzle.specs.declared.placements.Pair.{Pair}
use Rattle.match_puzzle.specs.declared.items.Item.{Item}
use Rattle.match_puzzle.specs.declared.items.Item.TheVariants.{Cell, Tile}

-- The placement may be put at the cell: cell and tile are free, it is legal, shows what the border asks and matches its
-- neighbours.
pub record Fits (p : Task) (q : Prefix) (cell : ℕ) (x : Placement) : Type 0 where
  pub free : IsFree q cell
  pub unused : IsUnused q x.tile
  pub legal : IsLegal p x
  pub border : (side colour : ℕ) → HasRule p cell side colour → colour_of p x side ≡ colour
  pub edges : (side cell' side' : ℕ) (y : Placement) → Meets p.board cell side cell' side' → Has q cell' y
      → GoTogether p (colour_of p x side) (colour_of p y side')

-- by tile, then by turn
abbrev pub tile_turn : Placement → ℕ × ℕ
tile_turn x = (x.tile, x.turn)

-- by cell, then by turn
abbrev pub cell_turn : Pair → ℕ × ℕ
cell_turn x = (x.cell, x.placement.turn)

-- The pair is of this cell, or of this tile.
abbrev pub Settles : Item → Pair → Type 0
Settles (Cell cell) x = x.cell ≡ cell
Settles (Tile tile) x = x.placement.tile ≡ tile

-- The pair fits and settles the item.
abbrev pub FitsItem : Task → Prefix → Item → Pair → Type 0
FitsItem p q item x = Settles item x × Fits p q x.cell x.placement

-- the order of the pairs that settle an item
abbrev pub item_key : Item → Pair → ℕ × ℕ
item_key (Cell cell) x = tile_turn x.placement
item_key (Tile tile) x = cell_turn x

-- all pairs that fit and settle the item, in order
abbrev pub AreFitting : Task → Prefix → Item → List Pair → Type 0
AreFitting p q item xs = IsListing (ByKey (item_key item)) (FitsItem p q item) xs

-- The item is one of the puzzle, and not settled.
abbrev pub IsUnsettled : Task → Prefix → Item → Type 0
IsUnsettled p q (Cell cell) = IsFree q cell
IsUnsettled p q (Tile tile) = (tile < length p.words) × IsUnused q tile

-- Each arrangement settles the item: it is a cell, or a tile where each tile has to stand.
abbrev pub HasToBeSettled : Task → Item → Type 0
HasToBeSettled p (Cell cell) = Unit {0}
HasToBeSettled p (Tile tile) = AllHaveToStand p

-- The item is one of the puzzle, not settled, and each arrangement settles it.
abbrev pub IsOpen : Task → Prefix → Item → Type 0
IsOpen p q (Cell cell) = IsFree q cell
IsOpen p q (Tile tile) = (tile < length p.words) × IsUnused q tile × AllHaveToStand p

-- A placement at the cell has to show the colour on the side: the border asks for it, or a neighbour shows its
-- mate.
abbrev pub IsAsked : Task → Prefix → (cell side colour : ℕ) → Type 0
IsAsked p q cell side colour =
    HasRule p cell side colour
    ⊎ ((cell' : ℕ) × (side' : ℕ) × (y : Placement) × Meets p.board cell side cell' side' × Has q cell' y
    × (mate_of p (colour_of p y side') ≡ colour))

-- The item is one of the puzzle.
abbrev pub IsItem : Task → Item → Type 0
IsItem p (Cell cell) = cell < cell_count p.board
IsItem p (Tile tile) = tile < length p.words

-- the tile at a turn
abbrev pub turned_tile : (tile turn : ℕ) → Placement
turned_tile tile turn = record { tile = tile; turn = turn }

-- The numbers are those of the tiles' placements that show what is asked on the side of the cell.
abbrev pub AreAsAsked : Task → Prefix → (cell side : ℕ) → List ℕ → Type 0
AreAsAsked p q cell side numbers =
    IsListing ◌<◌
    (λ n. (n / 4 < length p.words)
    × ((colour : ℕ) → IsAsked p q cell side colour → colour_of p (turned_tile (n / 4) (n % 4)) side ≡ colour)) numbers

-- the pair with this number among those that settle the item: at a cell four turns to a tile, of a tile four turns to a
-- cell
abbrev pub numbered_pair : Item → ℕ → Pair
numbered_pair (Cell cell) n = record { cell = cell; placement = turned_tile (n / 4) (n % 4) }
numbered_pair (Tile tile) n = record { cell = n / 4; placement = turned_tile tile (n % 4) }

-- The item has this number on a board of `cells` cells: tiles follow the cells.
abbrev pub IsNumberOf : (cells : ℕ) → (number : ℕ) → Item → Type 0
IsNumberOf cells number (Cell cell) = (number ≡ cell) × (cell < cells)
IsNumberOf cells number (Tile tile) = number ≡ cells + tile

-- Where items stand in order, cells by number and then tiles by number, the one isn't after the other.
abbrev pub IsNotAfter : Item → Item → Type 0
IsNotAfter (Cell cell) (Cell other) = cell ≤ other
IsNotAfter (Cell cell) (Tile other) = Unit {0}
IsNotAfter (Tile tile) (Cell other) = ⊥
IsNotAfter (Tile tile) (Tile other) = tile ≤ other

-- The item is the first of those open items that have the fewest pairs that fit: cells by number, then tiles by number.
pub record HasFewestFitting (p : Task) (q : Prefix) (item : Item) : Type 0 where
  pub is_open : IsOpen p q item
  pub fewest : (other : Item) (xs ys : List Pair) → IsOpen p q other → AreFitting p q item xs → AreFitting p q other ys
      → (length xs < length ys) ⊎ ((length xs ≡ length ys) × IsNotAfter item other)

-- The pair comes after that one in the item's order; where none is named, each does.
abbrev pub ComesAfterPair : Item → (after : Option Pair) → Pair → Type 0
ComesAfterPair item after x = IfSome after (λ before. ByKey (item_key item) before x)

-- the first pair after that one that fits and settles the item
pub record IsNextFitting (p : Task) (q : Prefix) (item : Item) (after : Option Pair) (x : Pair) : Type 0 where
  pub fits : FitsItem p q item x
  pub after_it : ComesAfterPair item after x
  pub first : (y : Pair) → FitsItem p q item y → ComesAfterPair item after y → (x ≡ y) ⊎ ByKey (item_key item) x y

-- No pair that fits and settles the item comes after that one.
abbrev pub IsLastFitting : Task → Prefix → Item → (after : Option Pair) → Type 0
IsLastFitting p q item after = (y : Pair) → FitsItem p q item y → ComesAfterPair item after y → ⊥

-- the place of the item in a table for a board of `cells` cells
abbrev pub item_place : (cells : ℕ) → Item → ℕ
item_place cells (Cell cell) = cell
item_place cells (Tile tile) = cells + tile
