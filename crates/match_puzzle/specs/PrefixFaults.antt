-- Pairs that are listed as a prefix.
use Rattle.std.specs.Prelude.{◌≡◌, ◌⊎◌, ◌<◌, ◌≤◌, ◌+◌, ℕ, Bool, true, false, List, Option, Some, None, length}
use Rattle.std.specs.Prelude.{slice_get, slice_index_or}
use Rattle.match_limits.specs.declared.TheConstants.{MOST_CELLS, MOST_TILES}
use Rattle.match_board.specs.Board.{cell_count}
use Rattle.match_limits.specs.First.{Rank, IsFirst, rank_by_two}
use Rattle.match_puzzle.specs.Puzzle.{Task, IsLegal, IsLegalTurn}
use Rattle.match_puzzle.specs.declared.placements.Pair.{Pair}
use Rattle.match_puzzle.specs.declared.faults.PrefixFault.{PrefixFault}
use Rattle.match_puzzle.specs.declared.faults.PrefixFault.TheVariants.{Cell, Tile, Turn}

-- Legal placements of different tiles at cells of the board, the cells rising.
pub record IsPairList (p : Task) (pairs : List Pair) : Type 0 where
  pub cells : (place : ℕ) (x : Pair) → slice_get pairs place ≡ Some x → x.cell < cell_count p.board
  pub rising : (place later : ℕ) (x y : Pair) → slice_get pairs place ≡ Some x → slice_get pairs later ≡ Some y
      → place < later → x.cell < y.cell
  pub legal : (place : ℕ) (x : Pair) → slice_get pairs place ≡ Some x → IsLegal p x.placement
  pub once : (place later : ℕ) (x y : Pair) → slice_get pairs place ≡ Some x → slice_get pairs later ≡ Some y
      → x.placement.tile ≡ y.placement.tile → place ≡ later

-- When a fault occurs.
abbrev pub PrefixFails : Task → List Pair → PrefixFault → Type 0
PrefixFails p pairs (Cell place) =
    (x : Pair) × (slice_get pairs place ≡ Some x)
    × ((cell_count p.board ≤ x.cell)
    ⊎ ((before : ℕ) × (y : Pair) × (place ≡ before + 1) × (slice_get pairs before ≡ Some y) × (x.cell ≤ y.cell)))
PrefixFails p pairs (Tile place) =
    (x : Pair) × (slice_get pairs place ≡ Some x)
    × ((length p.words ≤ x.placement.tile)
    ⊎ ((before : ℕ) × (y : Pair) × (before < place) × (slice_get pairs before ≡ Some y)
    × (x.placement.tile ≡ y.placement.tile)))
PrefixFails p pairs (Turn place) = (x : Pair) × (slice_get pairs place ≡ Some x) × (IsLegalTurn p x.placement → ⊥)

-- the order of the faults
abbrev pub prefix_rank : PrefixFault → Rank
prefix_rank (Cell place) = rank_by_two place 1
prefix_rank (Tile place) = rank_by_two place 2
prefix_rank (Turn place) = rank_by_two place 3

-- at the least place, the first kind that occurs there
abbrev pub IsPrefixFault : Task → List Pair → PrefixFault → Type 0
IsPrefixFault p pairs = IsFirst prefix_rank (PrefixFails p pairs)

-- The cell is one of the board, which has at most `MOST_CELLS`, from the least on.
abbrev pub IsNextCell : Task → (least cell : ℕ) → Type 0
IsNextCell p least cell = (least ≤ cell) × (cell < cell_count p.board) × (cell < MOST_CELLS)

-- The tile is one of the puzzle, which has at most `MOST_TILES`, and was not seen.
abbrev pub IsNewTile : Task → List Bool → (tile : ℕ) → Type 0
IsNewTile p seen tile = (tile < length p.words) × (tile < MOST_TILES) × (slice_index_or seen tile false ≡ false)

-- What is said of the pair at a place: the first kind of fault, by the least cell that it may have and the tiles that
-- were seen.
abbrev pub TellsOfPair : Task → (place : ℕ) → Pair → (least : ℕ) → List Bool → Option PrefixFault → Type 0
TellsOfPair p place x least seen None =
    IsNextCell p least x.cell × IsNewTile p seen x.placement.tile × IsLegal p x.placement
TellsOfPair p place x least seen (Some (Cell n)) = (n ≡ place) × ((x.cell < least) ⊎ (cell_count p.board ≤ x.cell))
TellsOfPair p place x least seen (Some (Tile n)) =
    (n ≡ place) × IsNextCell p least x.cell
    × ((length p.words ≤ x.placement.tile)
    ⊎ ((x.placement.tile < MOST_TILES) × (slice_index_or seen x.placement.tile false ≡ true)))
TellsOfPair p place x least seen (Some (Turn n)) =
    (n ≡ place) × IsNextCell p least x.cell × IsNewTile p seen x.placement.tile × (IsLegalTurn p x.placement → ⊥)
