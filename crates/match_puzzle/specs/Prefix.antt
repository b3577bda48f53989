-- Prefixes: a placement, or none, for each cell.
use Rattle.std.specs.Prelude.{◌≡◌, ◌≢◌, ℕ, List, [], ◌∷◌, Option, Some, None, Contains, length, replicate, slice_get}
use Rattle.std.specs.Prelude.{slice_set}
use Rattle.match_board.specs.Board.{cell_count}
use Rattle.match_puzzle.specs.Puzzle.{Task, IsLegal}
use Rattle.match_puzzle.specs.Arrangement.{Stands}
use Rattle.match_puzzle.specs.declared.placements.Placement.{Placement}
use Rattle.match_puzzle.specs.declared.placements.Pair.{Pair}

-- what stands at each cell
abbrev pub Prefix : Type 0
Prefix = List (Option Placement)

-- The placement stands at the cell.
abbrev pub Has : Prefix → ℕ → Placement → Type 0
Has q cell x = slice_get q cell ≡ Some (Some x)

-- The cell is one of the board, and nothing stands there.
abbrev pub IsFree : Prefix → ℕ → Type 0
IsFree q cell = slice_get q cell ≡ Some None

-- The tile stands at no cell.
abbrev pub IsUnused : Prefix → ℕ → Type 0
IsUnused q tile = (cell : ℕ) (x : Placement) → Has q cell x → x.tile ≢ tile

-- The tile stands at a cell.
abbrev pub IsUsed : Prefix → ℕ → Type 0
IsUsed q tile = (cell : ℕ) × (x : Placement) × Has q cell x × (x.tile ≡ tile)

-- Legal placements of different tiles at cells of the board.
pub record IsPrefix (p : Task) (q : Prefix) : Type 0 where
  pub cells : length q ≡ cell_count p.board
  pub legal : (cell : ℕ) (x : Placement) → Has q cell x → IsLegal p x
  pub once : (cell cell' : ℕ) (x y : Placement) → Has q cell x → Has q cell' y → x.tile ≡ y.tile → cell ≡ cell'

-- The arrangement has all that stands in the prefix.
abbrev pub Extends : List Placement → Prefix → Type 0
Extends a q = (cell : ℕ) (x : Placement) → Has q cell x → Stands a cell x

-- nothing placed
abbrev pub empty_prefix : Task → Prefix
empty_prefix p = replicate (cell_count p.board) None

-- the prefix with one more pair
abbrev pub with_pair : Prefix → ℕ → Placement → Prefix
with_pair q cell x = slice_set q cell (Some x)

-- the prefix with no placement at the cell
abbrev pub without_cell : Prefix → ℕ → Prefix
without_cell q cell = slice_set q cell None

-- the prefix with some more pairs
abbrev pub with_pairs : List Pair → Prefix → Prefix
with_pairs [] q = q
with_pairs (x ∷ xs) q = with_pairs xs (with_pair q x.cell x.placement)

-- a prefix, and the puzzle that it is of
pub record Layout : Type 0 where
  pub puzzle : Task
  pub placed : Prefix

-- Each pair stands in the prefix.
abbrev pub IsWithin : List Pair → Prefix → Type 0
IsWithin pairs q = (x : Pair) → Contains pairs x → Has q x.cell x.placement
