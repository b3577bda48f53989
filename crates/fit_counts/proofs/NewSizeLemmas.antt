-- The table of counts where nothing is placed.
use Rattle.std.proofs.Common.{◌≡◌, ◌<◌, ◌+◌, ◌*◌, ◌/◌, ◌%◌, ◌++◌, ◌∷◌, [], ℕ, List, Contains, Option, None, length, map, get_or, arith, refl, sym, ◌∙◌, subst, ⊎_elim}
use Rattle.std.proofs.lemmas.Bool.Decides.{eqb_tells}
use Rattle.std.proofs.lemmas.List.{get_or_append_left, get_or_push, length-map, length-replicate}
use Rattle.std.proofs.lemmas.Option.{slice_get_within}
use Rattle.match_board.specs.Board.{cell_count}
use Rattle.match_puzzle.specs.Puzzle.{Task, IsPuzzle}
use Rattle.match_limits.specs.Listing.{IsListing}
use Rattle.match_puzzle.specs.Prefix.{Prefix, Has, IsFree, IsUnused, empty_prefix}
use Rattle.match_puzzle.specs.PlacementSets.{numbered}
use Rattle.fit_counts.specs.FitRows.{StandsInRow, IsRow, AreRows, HasRowsOf, IsCountIn}
use Rattle.match_puzzle.specs.Fitting.{Fits, AreFitting, IsItem, IsUnsettled, IsNumberOf, numbered_pair, turned_tile}
use Rattle.fit_counts.specs.FitSizes.{AreSizes}
use Rattle.match_puzzle.specs.Fitting.{item_place}
use Rattle.match_puzzle.specs.declared.items.Item.{Item}
use Rattle.match_puzzle.specs.declared.items.Item.TheVariants.{Cell, Tile}
use Rattle.match_puzzle.specs.declared.placements.Placement.{Placement}
use Rattle.match_puzzle.specs.declared.placements.Pair.{Pair}
use Rattle.fit_counts.proofs.FitRowLemmas.{in_row_fits, fits_in_row}
use Rattle.match_puzzle.proofs.FittingLemmas.{fitting_at_cell, fitting_of_tile, numbered_at, shown_fits}
use Rattle.fit_counts.proofs.ItemLemmas.{one_item}
use Rattle.match_puzzle.proofs.UsedTiles.{has_none}
use Rattle.match_puzzle.proofs.PairLemmas.{free_in_empty}
use Rattle.match_limits.proofs.SplitListings.{listing_as}

-- an entry, where the item is open
abbrev pub IsEntry : Task → Prefix → Item → (place entry : ℕ) → Type 0
IsEntry p q item place entry = (xs : List Pair) × AreFitting p q item xs × (entry ≡ 1024 * length xs + place)

-- So many entries are right.
abbrev pub AreEntriesBelow : Task → Prefix → List ℕ → ℕ → Type 0
AreEntriesBelow p q sizes n =
    (place : ℕ) → place < n → (item : Item) → IsNumberOf (cell_count p.board) place item → IsEntry p q item place (get_or sizes place 0)

module _ (p : Task) (q : Prefix) where
  -- one more
  pub entries_more : (sizes : List ℕ) (n entry : ℕ) (item : Item) → length sizes ≡ n → AreEntriesBelow p q sizes n → IsNumberOf (cell_count p.board) n item → IsEntry p q item n entry → AreEntriesBelow p q (sizes ++ entry ∷ []) (n + 1)
  entries_more sizes n entry item long before is here place lt other is_other =
      ⊎_elim
      (λ e.
      let same : item ≡ other = one_item (cell_count p.board) n item other is (subst (λ k. IsNumberOf (cell_count p.board) k other) e.1 is_other) in
      let at : get_or (sizes ++ entry ∷ []) place 0 ≡ entry = get_or_push sizes entry 0 place (long ∙ sym e.1) in
      subst (λ k. IsEntry p q other k (get_or (sizes ++ entry ∷ []) place 0)) (sym e.1)
      (subst (λ k. IsEntry p q other n k) (sym at) (subst (λ i. IsEntry p q i n entry) same here)))
      (λ ne.
      let apart = ne.1 in
      let less : place < n = omega (arith, lt, apart) in
      subst (IsEntry p q other place) (sym (get_or_append_left sizes (entry ∷ []) 0 place (omega (arith, less, long)))) (before place less other is_other))
      (eqb_tells place n)

  pub no_entries : AreEntriesBelow p q [] 0
  no_entries place lt item is = absurd (omega (arith, lt))

-- a number below that of cells and tiles is that of an item of the puzzle
pub item_within : (p : Task) (place : ℕ) (item : Item) → IsNumberOf (cell_count p.board) place item → place < cell_count p.board + length p.words → IsItem p item
item_within p place (Cell cell) is lt = is.1
item_within p place (Tile tile) is lt = omega (arith, is, lt)

-- where nothing is placed, each item is open
all_open : (p : Task) (item : Item) → IsItem p item → IsUnsettled p (empty_prefix p) item
all_open p (Cell cell) lt = free_in_empty p cell lt
all_open p (Tile tile) lt = (lt, λ cell x has same. has_none (cell_count p.board) cell x has)

-- a free cell is one of the board
within_board : (p : Task) (cell : ℕ) → IsUnsettled p (empty_prefix p) (Cell cell) → cell < cell_count p.board
within_board p cell free = omega (arith, slice_get_within (empty_prefix p) cell None free, length-replicate {A = Option Placement} (cell_count p.board) None)

pub all_entries : (p : Task) (q : Prefix) (sizes : List ℕ) → IsPuzzle p → q ≡ empty_prefix p → length sizes ≡ cell_count p.board + length p.words → AreEntriesBelow p q sizes (cell_count p.board + length p.words) → AreSizes p q sizes
all_entries p q sizes puzzle empty long are = record {
  open_items = record { long = long; counts = λ item is_open. counted item is_open };
  settled = λ item is settled. absurd (settled (subst (λ r. IsUnsettled p r item) (sym empty) (all_open p item is)));
}
  where
    counted : (item : Item) → IsUnsettled p q item → IsEntry p q item (item_place (cell_count p.board) item) (get_or sizes (item_place (cell_count p.board) item) 0)
    counted (Cell cell) free =
        let lt = within_board p cell (subst (λ r. IsUnsettled p r (Cell cell)) empty free) in
        are cell (omega (arith, lt)) (Cell cell) (refl, lt)
    counted (Tile tile) h = let lt = h.0 in are (cell_count p.board + tile) (omega (arith, lt)) (Tile tile) refl

-- ---- what the rows have

-- where nothing is placed, all that is in a row fits
module _ (p : Task) (q : Prefix) (puzzle : IsPuzzle p) (empty : q ≡ empty_prefix p) (rows : List (List ℕ)) (are : AreRows p q rows) where
  none_used : (tile : ℕ) → IsUnused q tile
  none_used tile cell x has same = has_none (cell_count p.board) cell x (subst (λ r. Has r cell x) empty has)

  -- the pairs at a cell
  pub fitting_in_row : (cell : ℕ) (row : List ℕ) → cell < cell_count p.board → row ≡ get_or rows cell [] → AreFitting p q (Cell cell) (map (numbered_pair (Cell cell)) row)
  fitting_in_row cell row lt read =
      let is = subst (IsRow p q cell) (sym read) (are.is cell lt) in
      fitting_at_cell p q cell row puzzle
      (listing_as ◌<◌ (StandsInRow p q cell) (λ n. Fits p q cell (numbered n)) row
      (λ n s. in_row_fits p q cell row is n (is.all n s) (none_used (n / 4)))
      (λ n fits. record { free = fits.free; legal = fits.legal; shows = shown_fits p q cell (numbered n) fits })
      is)

  -- the pairs of a tile
  pub fitting_in_rows : (tile : ℕ) (places : List ℕ) → IsListing ◌<◌ (λ n. (n / 4 < length rows) × Contains (get_or rows (n / 4) []) (4 * tile + n % 4)) places → AreFitting p q (Tile tile) (map (numbered_pair (Tile tile)) places)
  fitting_in_rows tile places is =
      fitting_of_tile p q tile places puzzle
      (listing_as ◌<◌ (λ n. (n / 4 < length rows) × Contains (get_or rows (n / 4) []) (4 * tile + n % 4)) (λ n. Fits p q (n / 4) (turned_tile tile (n % 4))) places
      (λ n h.
      let long = are.long in
      let less = h.0 in
      subst (Fits p q (n / 4)) (numbered_at tile (n % 4) (omega arith))
      (in_row_fits p q (n / 4) (get_or rows (n / 4) []) (are.is (n / 4) (omega (arith, less, long))) (4 * tile + n % 4) h.1 (none_used ((4 * tile + n % 4) / 4))))
      (λ n fits.
      let long = are.long in
      let lt = within_board p (n / 4) (subst (λ r. IsFree r (n / 4)) empty fits.free) in
      (omega (arith, lt, long), fits_in_row p q (n / 4) (get_or rows (n / 4) []) (are.is (n / 4) lt) (turned_tile tile (n % 4)) fits puzzle))
      is)

  -- what the rows have of an item is all that fits
  pub counted_in : (item : Item) (count : ℕ) → IsItem p item → IsCountIn rows item count → (xs : List Pair) × AreFitting p q item xs × (length xs ≡ count)
  counted_in (Cell cell) count lt long =
      let row = get_or rows cell [] in
      (map (numbered_pair (Cell cell)) row, fitting_in_row cell row lt refl, length-map row (numbered_pair (Cell cell)) ∙ long)
  counted_in (Tile tile) count lt found =
      (map (numbered_pair (Tile tile)) found.0, fitting_in_rows tile found.0 found.1, length-map found.0 (numbered_pair (Tile tile)) ∙ found.2)

  -- an item of the puzzle can be counted
  pub has_rows_of : (item : Item) → IsItem p item → HasRowsOf rows item
  has_rows_of (Cell cell) lt = let long = are.long in omega (arith, lt, long)
  has_rows_of (Tile tile) lt = let few = puzzle.tiles.few in omega (arith, lt, few)
