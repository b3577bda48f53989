-- How a table of sizes is lowered, one tile or one cell after the other.
use Rattle.std.proofs.Common.{◌≡◌, ◌≢◌, ◌⊎◌, ◌<◌, ◌≤◌, ◌+◌, ◌-◌, ◌*◌, ◌/◌, ℕ, List, [], ◌∷◌, Contains, length, length-set, set, get_or, min, arith, refl, ap, sym, ◌∙◌, subst, inl, inr, ⊎_elim}
use Rattle.std.proofs.lemmas.Bool.Decides.{eqb_tells}
use Rattle.std.proofs.lemmas.List.{get_or-set_same, get_or-set_other}
use Rattle.match_limits.proofs.Listings.{lt_or_le, contains_none, in_front}
use Rattle.fit_counts.specs.FitRows.{AreOpenRows}
use Rattle.match_limits.specs.NumberSets.{count_of_group}
use Rattle.fit_counts.specs.declared.fit_sizes.TheConstants.{STEP, COVERED}
use Rattle.match_limits.proofs.NumberSetLemmas.{behind, rising_asymmetric}
use Rattle.match_limits.proofs.GroupCounts.{one_if_same, none_if_other}

-- ---- tiles

-- what becomes of the first table where some of the numbers are left
pub record AreTilesLowered (numbers left : List ℕ) (cells : ℕ) (first sizes : List ℕ) : Type 0 where
  pub long : length sizes ≡ length first
  pub below : (n : ℕ) → Contains left n → cells + n / 4 < length first
  pub tiles : (tile : ℕ) → cells + tile < length first → get_or sizes (cells + tile) 0 + STEP * count_of_group numbers tile ≡ get_or first (cells + tile) 0 + STEP * count_of_group left tile
  pub others : (cell : ℕ) → cell < cells → get_or sizes cell 0 ≡ get_or first cell 0

pub no_tiles_lowered : (numbers : List ℕ) (cells : ℕ) (first : List ℕ) → ((n : ℕ) → Contains numbers n → cells + n / 4 < length first) → AreTilesLowered numbers numbers cells first first
no_tiles_lowered numbers cells first below = record {
  long = refl;
  below = below;
  tiles = λ tile inside. refl;
  others = λ cell lt. refl;
}

-- one number more
module _ (numbers : List ℕ) (n : ℕ) (left : List ℕ) (cells : ℕ) (first sizes : List ℕ) (before : AreTilesLowered numbers (n ∷ left) cells first sizes)
    (enough : (tile : ℕ) → cells + tile < length first → STEP * count_of_group numbers tile ≤ get_or first (cells + tile) 0) where
  abbrev Tile : ℕ
  Tile = n / 4

  inside : cells + Tile < length first
  inside = before.below n (0, omega arith, refl)

  pub tile_in_table : cells + Tile < length sizes
  tile_in_table = let same = before.long in let lt = inside in omega (arith, same, lt)

  -- the number is of its tile
  one_of_tile : count_of_group (n ∷ left) Tile ≡ count_of_group left Tile + 1
  one_of_tile = let one = one_if_same Tile Tile refl in omega (arith, one)

  pub enough_for_one : STEP ≤ get_or sizes (cells + Tile) 0
  enough_for_one =
      let now = before.tiles Tile inside in
      let some = enough Tile inside in
      let more = one_of_tile in
      omega (arith, now, some, more)

  abbrev Lowered : List ℕ
  Lowered = set sizes (cells + Tile) (get_or sizes (cells + Tile) 0 - STEP)

  lowered : (tile : ℕ) → cells + tile < length first → get_or Lowered (cells + tile) 0 + STEP * count_of_group numbers tile ≡ get_or first (cells + tile) 0 + STEP * count_of_group left tile
  lowered tile within =
      ⊎_elim
      (λ e. subst (λ t. get_or Lowered (cells + t) 0 + STEP * count_of_group numbers t ≡ get_or first (cells + t) 0 + STEP * count_of_group left t) (sym e.1)
      (let at = get_or-set_same sizes (cells + Tile) (get_or sizes (cells + Tile) 0 - STEP) 0 tile_in_table in
      let some = enough_for_one in
      let now = before.tiles Tile inside in
      let more = one_of_tile in
      omega (arith, at, some, now, more)))
      (λ ne.
      let other = ne.1 in
      let kept = get_or-set_other sizes (cells + Tile) (cells + tile) (get_or sizes (cells + Tile) 0 - STEP) 0 (λ e. other (omega (arith, e))) in
      let now = before.tiles tile within in
      let none = none_if_other Tile tile (λ e. other (sym e)) in
      omega (arith, kept, now, none))
      (eqb_tells tile Tile)

  pub one_tile_lowered : AreTilesLowered numbers left cells first Lowered
  one_tile_lowered = record {
    long = length-set sizes (cells + Tile) (get_or sizes (cells + Tile) 0 - STEP) ∙ before.long;
    below = λ m c. before.below m (behind n left m c);
    tiles = lowered;
    others = λ cell lt. get_or-set_other sizes (cells + Tile) cell (get_or sizes (cells + Tile) 0 - STEP) 0 (λ e. omega (arith, e, lt)) ∙ before.others cell lt;
  }

-- no number is left
pub all_tiles_lowered : (numbers left : List ℕ) (cells : ℕ) (first sizes : List ℕ) → left ≡ [] → AreTilesLowered numbers left cells first sizes → (tile : ℕ) → cells + tile < length first → get_or sizes (cells + tile) 0 + STEP * count_of_group numbers tile ≡ get_or first (cells + tile) 0
all_tiles_lowered numbers left cells first sizes none is tile lt =
    let now = is.tiles tile lt in
    let no_more = ap (λ xs. count_of_group xs tile) none in
    omega (arith, now, no_more)

-- ---- cells

-- what becomes of the first table where some of the cells are left
pub record AreCellsLowered (rows : List (List ℕ)) (tile : ℕ) (left first sizes : List ℕ) : Type 0 where
  pub long : length sizes ≡ length first
  pub within : (cell : ℕ) → Contains left cell → cell < length rows
  pub waiting : (cell : ℕ) → Contains left cell → get_or sizes cell 0 ≡ get_or first cell 0
  pub done : (cell : ℕ) → cell < length rows → (Contains left cell → ⊥) → get_or sizes cell 0 + STEP * count_of_group (get_or rows cell []) tile ≡ get_or first cell 0
  pub others : (place : ℕ) → length rows ≤ place → get_or sizes place 0 ≡ get_or first place 0

pub no_cells_lowered : (rows : List (List ℕ)) (tile : ℕ) (cells first : List ℕ) → AreOpenRows rows cells → AreCellsLowered rows tile cells first first
no_cells_lowered rows tile cells first are = record {
  long = refl;
  within = are.within;
  waiting = λ cell c. refl;
  done = λ cell lt none. let empty = ap (λ row. count_of_group row tile) (are.others cell none) in omega (arith, empty);
  others = λ place le. refl;
}

-- one cell more
module _ (rows : List (List ℕ)) (tile cell : ℕ) (left first sizes : List ℕ) (before : AreCellsLowered rows tile (cell ∷ left) first sizes) (long : length rows ≤ length first)
    (enough : (other : ℕ) → other < length rows → STEP * count_of_group (get_or rows other []) tile ≤ get_or first other 0) (above : (other : ℕ) → Contains left other → cell < other) where
  pub cell_in_rows : cell < length rows
  cell_in_rows = before.within cell (0, omega arith, refl)

  pub enough_for_cell : STEP * count_of_group (get_or rows cell []) tile ≤ get_or sizes cell 0
  enough_for_cell =
      let same = before.waiting cell (0, omega arith, refl) in
      let some = enough cell cell_in_rows in
      omega (arith, same, some)

  pub cell_in_table : cell < length sizes
  cell_in_table = let same = before.long in let lt = cell_in_rows in omega (arith, same, long, lt)

  abbrev Rest : ℕ
  Rest = get_or sizes cell 0 - STEP * count_of_group (get_or rows cell []) tile

  elsewhere : (other : ℕ) → other ≢ cell → get_or (set sizes cell Rest) other 0 ≡ get_or sizes other 0
  elsewhere other ne = get_or-set_other sizes cell other Rest 0 ne

  pub one_cell_lowered : AreCellsLowered rows tile left first (set sizes cell Rest)
  one_cell_lowered = record {
    long = length-set sizes cell Rest ∙ before.long;
    within = λ other c. before.within other (behind cell left other c);
    waiting = λ other c. let lt = above other c in elsewhere other (λ e. omega (arith, lt, e)) ∙ before.waiting other (behind cell left other c);
    done = λ other lt none.
        ⊎_elim
        (λ e. subst (λ k. get_or (set sizes cell Rest) k 0 + STEP * count_of_group (get_or rows k []) tile ≡ get_or first k 0) (sym e.1)
        (let at = get_or-set_same sizes cell Rest 0 cell_in_table in
        let some = enough_for_cell in
        let same = before.waiting cell (0, omega arith, refl) in
        omega (arith, at, some, same)))
        (λ ne.
        let kept = elsewhere other ne.1 in
        let was = before.done other lt (λ c. ⊎_elim (λ e. ne.1 (sym e)) (λ later. none later) (in_front ◌<◌ rising_asymmetric cell left other c)) in
        omega (arith, kept, was))
        (eqb_tells other cell);
    others = λ place le. let lt = cell_in_rows in elsewhere place (λ e. omega (arith, le, lt, e)) ∙ before.others place le;
  }

-- no cell is left
pub all_cells_lowered : (rows : List (List ℕ)) (tile : ℕ) (left first sizes : List ℕ) → left ≡ [] → AreCellsLowered rows tile left first sizes → (cell : ℕ) → cell < length rows → get_or sizes cell 0 + STEP * count_of_group (get_or rows cell []) tile ≡ get_or first cell 0
all_cells_lowered rows tile left first sizes none is cell lt = is.done cell lt (λ c. contains_none cell (subst (λ xs. Contains xs cell) none c))

-- ---- the least entry

-- the least of the entries before this one, or that of a settled item where none is less
pub record IsLeastBefore (sizes : List ℕ) (from least : ℕ) : Type 0 where
  pub most : least ≤ COVERED
  pub not_more : (place : ℕ) → place < from → least ≤ get_or sizes place 0
  pub range : (place : ℕ) → place < from → get_or sizes place 0 ≤ COVERED
  pub one : (least ≡ COVERED) ⊎ ((place : ℕ) × (place < length sizes) × (get_or sizes place 0 ≡ least))

pub least_more : (sizes : List ℕ) (from least next : ℕ) → from < length sizes → get_or sizes from 0 ≤ COVERED → next ≡ min least (get_or sizes from 0) → IsLeastBefore sizes from least → IsLeastBefore sizes (from + 1) next
least_more sizes from least next in_range small is before = record {
  most = let most = before.most in omega (arith, is, most);
  not_more = λ place lt.
      ⊎_elim
      (λ e. subst (λ k. next ≤ get_or sizes k 0) (sym e.1) (omega (arith, is)))
      (λ ne. let other = ne.1 in let le = before.not_more place (omega (arith, lt, other)) in omega (arith, is, le))
      (eqb_tells place from);
  range = λ place lt.
      ⊎_elim
      (λ e. subst (λ k. get_or sizes k 0 ≤ COVERED) (sym e.1) small)
      (λ ne. let other = ne.1 in before.range place (omega (arith, lt, other)))
      (eqb_tells place from);
  one =
      ⊎_elim
      (λ less. inr (from, in_range, omega (arith, is, less)))
      (λ le.
      let same : next ≡ least = omega (arith, is, le) in
      ⊎_elim (λ e. inl (same ∙ e)) (λ w. inr (w.0, w.1, w.2 ∙ sym same)) before.one)
      (lt_or_le (get_or sizes from 0) least);
}
