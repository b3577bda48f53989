-- How many pairs fit and settle each item, in a table: the cells first, then the tiles.
use Rattle.std.specs.Prelude.{◌≡◌, ◌≢◌, ◌⊎◌, ◌<◌, ◌+◌, ◌*◌, ℕ, List, Some, length}
use Rattle.std.specs.Prelude.{slice_get, slice_index, take}
use Rattle.std.specs.List.{concat}
use Rattle.match_board.specs.Board.{cell_count, Meets}
use Rattle.match_limits.specs.Listing.{IsListing, ByKey}
use Rattle.match_puzzle.specs.Puzzle.{Task, IsPuzzle, AllHaveToStand, colour_of, mate_of}
use Rattle.match_puzzle.specs.Prefix.{Prefix}
use Rattle.match_puzzle.specs.Fitting.{Fits, Settles, IsItem, IsUnsettled, item_key, item_place}
use Rattle.fit_counts.specs.Placing.{FitInTurn, prefix_of}
use Rattle.fit_counts.specs.FitRows.{AreRows}
use Rattle.fit_counts.specs.declared.fit_sizes.TheConstants.{STEP, COVERED}
use Rattle.match_puzzle.specs.declared.items.Item.{Item}
use Rattle.match_puzzle.specs.declared.placements.Pair.{Pair}

-- For each item that isn't settled the table has the number of those of these pairs that settle it, times STEP, plus
-- the item's place.
pub record AreSizesOf (p : Task) (q : Prefix) (Among : Pair → Type 0) (sizes : List ℕ) : Type 0 where
  pub long : length sizes ≡ cell_count p.board + length p.words
  pub counts : (item : Item) → IsUnsettled p q item
      → (xs : List Pair) × IsListing (ByKey (item_key item)) (λ x. Settles item x × Among x) xs
      × (slice_index sizes (item_place (cell_count p.board) item)
      ≡ STEP * length xs + item_place (cell_count p.board) item)

-- For each settled item the table has COVERED.
abbrev pub AreCovered : Task → Prefix → (sizes : List ℕ) → Type 0
AreCovered p q sizes =
    (item : Item) → IsItem p item → (IsUnsettled p q item → ⊥)
    → slice_index sizes (item_place (cell_count p.board) item) ≡ COVERED

-- the entries of the items that have to be settled: all, or where there are tiles to spare those of the cells
abbrev pub AreToSettle : Task → (sizes seen : List ℕ) → Type 0
AreToSettle p sizes seen =
    (AllHaveToStand p × (seen ≡ sizes))
    ⊎ ((AllHaveToStand p → ⊥) × (seen ≡ take (cell_count p.board) sizes))

-- the pairs that fit
abbrev pub FitsPair : Task → Prefix → Pair → Type 0
FitsPair p q y = Fits p q y.cell y.placement

-- The table counts the pairs that fit.
pub record AreSizes (p : Task) (q : Prefix) (sizes : List ℕ) : Type 0 where
  pub open_items : AreSizesOf p q (FitsPair p q) sizes
  pub settled : AreCovered p q sizes

-- the pairs that fit and are of other cells than the pair
abbrev pub FitsElsewhere : Task → Prefix → (x : Pair) → Pair → Type 0
FitsElsewhere p q x y = FitsPair p q y × (y.cell ≢ x.cell)

-- the pairs that fit, are of other cells and other tiles than the pair, and go with what its first `sides` sides show
pub record FitsBeside (p : Task) (q : Prefix) (x : Pair) (sides : ℕ) (y : Pair) : Type 0 where
  pub fits : Fits p q y.cell y.placement
  pub other_cell : y.cell ≢ x.cell
  pub other_tile : y.placement.tile ≢ x.placement.tile
  pub beside : (side met : ℕ) → side < sides → Meets p.board x.cell side y.cell met
      → colour_of p y.placement met ≡ mate_of p (colour_of p x.placement side)

-- The tables that count beside the first pairs, one for each pair, stand one after the other.
pub record AreSaved (p : Task) (pairs : List Pair) (saved : List ℕ) : Type 0 where
  pub tables : List (List ℕ)
  pub many : length tables ≡ length pairs
  pub joined : concat tables ≡ saved
  pub are : (count : ℕ) (table : List ℕ) → slice_get tables count ≡ Some table
      → AreSizes p (prefix_of p (take count pairs)) table

-- what holds of pairs that are placed, and of what is kept beside them
pub record AreKeptBeside (p : Task) (pairs : List Pair) (q : Prefix) (row_table : List (List ℕ))
    (size_table saved_tables : List ℕ) : Type 0 where
  pub puzzle : IsPuzzle p
  pub fit : FitInTurn p pairs
  pub placed : q ≡ prefix_of p pairs
  pub rows : AreRows p q row_table
  pub sizes : AreSizes p q size_table
  pub saved : AreSaved p pairs saved_tables
