-- The next pair that fits and settles an item.
use Rattle.std.proofs.Common.{◌≡◌, ◌≢◌, ◌⊎◌, ◌<◌, ◌≤◌, ◌+◌, ◌*◌, ◌/◌, ◌%◌, ◌^◌, ◌↔◌, ℕ, List, Contains, Option, Some, None, IfSome, MatchOption, bit_and, arith, refl, sym, ap, ◌∙◌, subst, inl, inr, ⊎_elim}
use Rattle.std.specs.Int.{bit_at, trailing_zeros, w8}
use Rattle.std.proofs.lemmas.Bool.Decides.{eqb_tells}
use Rattle.std.proofs.lemmas.List.{length-replicate}
use Rattle.std.proofs.lemmas.Nat.{and_le_l}
use Rattle.std.proofs.lemmas.Nat.Bits.{bit_at_above, bit_at-zero, bit_at_ones, bit_at-trailing_zeros}
use Rattle.std.proofs.lemmas.Option.{slice_get_within}
use Rattle.match_board.specs.Board.{cell_count}
use Rattle.match_limits.specs.First.{IsLeast}
use Rattle.match_limits.specs.Listing.{ComesBefore, ByKey}
use Rattle.match_limits.specs.declared.TheConstants.{MOST_TILES}
use Rattle.match_limits.proofs.Listings.{lt_or_le}
use Rattle.fit_counts.specs.FitRows.{AreRows, IsRow}
use Rattle.fit_counts.specs.FitSizes.{AreKeptBeside}
use Rattle.match_puzzle.specs.Fitting.{Fits, FitsItem, ComesAfterPair, IsLastFitting, IsNextFitting, cell_turn, item_key, numbered_pair, turned_tile}
use Rattle.match_limits.specs.NumberSets.{IsGroup}
use Rattle.match_puzzle.specs.PlacementSets.{AreFreeNumbers, numbered}
use Rattle.fit_counts.specs.Placing.{Placing, placed_by, prefix_of}
use Rattle.match_puzzle.specs.Prefix.{Prefix, IsFree, IsUnused, empty_prefix}
use Rattle.match_puzzle.specs.Puzzle.{Task, IsPuzzle}
use Rattle.match_puzzle.specs.declared.items.Item.{Item}
use Rattle.match_puzzle.specs.declared.items.Item.TheVariants.{Cell, Tile}
use Rattle.match_puzzle.specs.declared.placements.Pair.{Pair}
use Rattle.match_puzzle.specs.declared.placements.Placement.{Placement}
use Rattle.fit_counts.proofs.FitRowLemmas.{in_row_fits}
use Rattle.match_puzzle.proofs.FittingLemmas.{each_of_four, numbered_at, same_pair, same_placement, shown_fits, small_turn}
use Rattle.match_puzzle.proofs.PairLemmas.{length-with_pairs}
use Rattle.match_limits.proofs.SetPairLemmas.{one_in_both, both_are_one}

-- ---- what is kept, of the pairs that are placed

abbrev pub placing_of : Task → List Pair → Placing
placing_of p pairs = record { puzzle = p; pairs = pairs }

module _ (p : Task) (pairs : List Pair) (q : Prefix) (rows : List (List ℕ)) (sizes saved : List ℕ) (kept : AreKeptBeside p pairs q rows sizes saved) (v : Placing) (same : placing_of p pairs ≡ v) where
  pub puzzle_now : IsPuzzle v.puzzle
  puzzle_now = subst (λ (u : Placing). IsPuzzle u.puzzle) same kept.puzzle

  pub rows_now : AreRows v.puzzle (placed_by v) rows
  rows_now = subst (λ (u : Placing). AreRows u.puzzle (placed_by u) rows) same (subst (λ w. AreRows p w rows) kept.placed kept.rows)

  pub free_now : (free : List ℕ) → AreFreeNumbers p q free → AreFreeNumbers v.puzzle (placed_by v) free
  free_now free is = subst (λ (u : Placing). AreFreeNumbers u.puzzle (placed_by u) free) same (subst (λ w. AreFreeNumbers p w free) kept.placed is)

-- ---- cells and tiles of what fits

-- as many cells as the board has
pub cells_of_pairs : (p : Task) (pairs : List Pair) (cell : ℕ) → IsFree (prefix_of p pairs) cell → cell < cell_count p.board
cells_of_pairs p pairs cell free =
    let within = slice_get_within (prefix_of p pairs) cell None free in
    let long = length-with_pairs pairs (empty_prefix p) in
    let cells = length-replicate {A = Option Placement} (cell_count p.board) None in
    omega (arith, within, long, cells)

module _ (p : Task) (q : Prefix) (item : Item) (puzzle : IsPuzzle p) where
  pub small_turns : (after : Option Pair) → IfSome after (FitsItem p q item) → IfSome after (λ x. x.placement.turn < 4)
  small_turns None fits = tt
  small_turns (Some x) fits = small_turn p x.placement puzzle fits.1.legal

  pub small_placements : (after : Option Pair) → IfSome after (FitsItem p q item) → IfSome after (λ x. (x.placement.tile < MOST_TILES) × (x.placement.turn < 4))
  small_placements None fits = tt
  small_placements (Some x) fits =
      let lt = fits.1.legal.tile in
      let few = puzzle.tiles.few in
      (omega (arith, lt, few), small_turn p x.placement puzzle fits.1.legal)

-- ---- at a cell

abbrev pub number_of : Placement → ℕ
number_of x = 4 * x.tile + x.turn

-- the first number behind that of the pair
abbrev pub IsNumberBehind : Option Pair → ℕ → Type 0
IsNumberBehind after from = MatchOption after (from ≡ 0) (λ x. from ≡ 4 * x.placement.tile + x.placement.turn + 1)

module _ (cell : ℕ) (y : Pair) (small_y : y.placement.turn < 4) where
  number_after : (after : Option Pair) (from : ℕ) → IsNumberBehind after from → IfSome after (λ x. x.placement.turn < 4) → ComesAfterPair (Cell cell) after y → from ≤ number_of y.placement
  number_after None from e small comes = omega (arith, e)
  number_after (Some x) from e small comes = ⊎_elim (λ sooner. omega (arith, e, small, sooner)) (λ same. omega (arith, e, same.0, same.1)) comes

  after_number : (after : Option Pair) (from : ℕ) → IsNumberBehind after from → from ≤ number_of y.placement → ComesAfterPair (Cell cell) after y
  after_number None from e le = tt
  after_number (Some x) from e le =
      ⊎_elim (λ sooner. inl sooner) (λ not_sooner. inr (omega (arith, e, le, not_sooner, small_y), omega (arith, e, le, not_sooner, small_y))) (lt_or_le x.placement.tile y.placement.tile)

module _ (p : Task) (q : Prefix) (cell : ℕ) (row : List ℕ) (is : IsRow p q cell row) where
  row_has : (n : ℕ) → Fits p q cell (numbered n) → Contains row n
  row_has n fits = is.all n record { free = fits.free; legal = fits.legal; shows = shown_fits p q cell (numbered n) fits }

  module _ (free : List ℕ) (are_free : AreFreeNumbers p q free) (puzzle : IsPuzzle p) (after : Option Pair) (fits_after : IfSome after (FitsItem p q (Cell cell))) (from : ℕ) (behind : IsNumberBehind after from) where
    -- the number of a pair that comes after that one
    number_there : (y : Pair) → FitsItem p q (Cell cell) y → ComesAfterPair (Cell cell) after y → Contains row (number_of y.placement) × Contains free (number_of y.placement) × (from ≤ number_of y.placement)
    number_there y fits comes =
        let lt = small_turn p y.placement puzzle fits.1.legal in
        let at = numbered_at y.placement.tile y.placement.turn lt in
        let here = subst (Fits p q cell) (sym at) (subst (λ k. Fits p q k y.placement) fits.0 fits.1) in (
          row_has (number_of y.placement) here,
          are_free.all (number_of y.placement) (here.legal, here.unused),
          number_after cell y lt after from behind (small_turns p q (Cell cell) puzzle after fits_after) comes,
        )

    pub last_at_cell : ((n : ℕ) → Contains row n → Contains free n → from ≤ n → ⊥) → IsLastFitting p q (Cell cell) after
    last_at_cell none y fits comes = let there = number_there y fits comes in none (number_of y.placement) there.0 there.1 there.2

    pub next_at_cell : (n : ℕ) → IsLeast (λ m. Contains row m × Contains free m × (from ≤ m)) n → IsNextFitting p q (Cell cell) after (numbered_pair (Cell cell) n)
    next_at_cell n least = record {
      fits = (refl, in_row_fits p q cell row is n least.holds.0 (are_free.only n least.holds.1).1);
      after_it = after_number cell (numbered_pair (Cell cell) n) (omega arith) after from behind (let le = least.holds.2 in omega (arith, le));
      first = λ y fits comes.
          let lt = small_turn p y.placement puzzle fits.1.legal in
          let le = least.least (number_of y.placement) (number_there y fits comes) in
          ⊎_elim
          (λ same. inl (same_pair (sym fits.0) (ap numbered same.1 ∙ numbered_at y.placement.tile y.placement.turn lt)))
          (λ other.
          let ne = other.1 in
          inr
          (⊎_elim
          (λ sooner. inl sooner)
          (λ not_sooner. inr (omega (arith, ne, le, lt, not_sooner), omega (arith, ne, le, lt, not_sooner)))
          (lt_or_le (n / 4) y.placement.tile)))
          (eqb_tells n (number_of y.placement));
    }

-- ---- of a tile

-- the cell from which on there are pairs behind that one
abbrev pub IsCellBehind : Option Pair → ℕ → Type 0
IsCellBehind after cell = MatchOption after (cell ≡ 0) (λ x. cell ≡ x.cell)

-- The turns, as bits, after which a tile at the cell comes after the pair.
abbrev pub AreTurnsBehind : Option Pair → (cell turns : ℕ) → Type 0
AreTurnsBehind after cell turns =
    (turn : ℕ) → turn < 4 →
    (bit_at turns turn ≡ 1 → IfSome after (λ x. ComesBefore (cell_turn x) (cell, turn))) × (IfSome after (λ x. ComesBefore (cell_turn x) (cell, turn)) → bit_at turns turn ≡ 1)

-- behind the pair's own cell all
pub all_turns : (after : Option Pair) (cell : ℕ) → IfSome after (λ x. x.cell < cell) → AreTurnsBehind after cell 15
all_turns None cell behind turn lt = (λ one. tt, λ comes. bit_at_ones 4 turn lt)
all_turns (Some x) cell behind turn lt = (λ one. inl behind, λ comes. bit_at_ones 4 turn lt)

-- the pair's cell is before the next one
pub cell_behind : (after : Option Pair) (first cell : ℕ) → IsCellBehind after first → first ≤ cell → IfSome after (λ x. x.cell < cell + 1)
cell_behind None first cell e le = tt
cell_behind (Some x) first cell e le = omega (arith, e, le)

-- No pair of the tile that comes after that one fits before the cell.
abbrev pub NoneBefore : Task → Prefix → (tile : ℕ) (after : Option Pair) (cell : ℕ) → Type 0
NoneBefore p q tile after cell = (y : Pair) → FitsItem p q (Tile tile) y → ComesAfterPair (Tile tile) after y → y.cell < cell → ⊥

pub last_of_tile : (p : Task) (pairs : List Pair) (tile : ℕ) (after : Option Pair) (cell : ℕ) → NoneBefore p (prefix_of p pairs) tile after cell → cell_count p.board ≤ cell → IsLastFitting p (prefix_of p pairs) (Tile tile) after
last_of_tile p pairs tile after cell none all y fits comes =
    let within = cells_of_pairs p pairs y.cell fits.1.free in
    none y fits comes (omega (arith, within, all))

module _ (p : Task) (q : Prefix) (puzzle : IsPuzzle p) (tile cell : ℕ) (unused : IsUnused q tile) (row : List ℕ) (is : IsRow p q cell row) (digits : ℕ) (few : digits < 16) (group : IsGroup row tile digits) (after : Option Pair) (turns : ℕ)
    (behind : AreTurnsBehind after cell turns) (none : NoneBefore p q tile after cell) where
  turn_fits : (turn : ℕ) → turn < 4 → bit_at digits turn ≡ 1 → Fits p q cell (turned_tile tile turn)
  turn_fits turn lt one =
      subst (Fits p q cell) (numbered_at tile turn lt)
      (in_row_fits p q cell row is (4 * tile + turn) ((group turn lt).0 one) (subst (IsUnused q) (let e : tile ≡ (4 * tile + turn) / 4 = omega (arith, lt) in e) unused))

  fits_turn : (turn : ℕ) → turn < 4 → Fits p q cell (turned_tile tile turn) → bit_at digits turn ≡ 1
  fits_turn turn lt fits = (group turn lt).1 (row_has p q cell row is (4 * tile + turn) (subst (Fits p q cell) (sym (numbered_at tile turn lt)) fits))

  -- the turn of a pair at the cell that comes after that one
  turn_there : (y : Pair) → FitsItem p q (Tile tile) y → ComesAfterPair (Tile tile) after y → y.cell ≡ cell → bit_at (bit_and digits turns) y.placement.turn ≡ 1
  turn_there y fits comes here =
      let lt = small_turn p y.placement puzzle fits.1.legal in
      both_are_one digits turns y.placement.turn
      (fits_turn y.placement.turn lt (subst (Fits p q cell) (same_placement {y = turned_tile tile y.placement.turn} fits.0 refl) (subst (λ k. Fits p q k y.placement) here fits.1)))
      ((behind y.placement.turn lt).1 (subst (λ k. IfSome after (λ x. ComesBefore (cell_turn x) (k, y.placement.turn))) here comes))

  pub none_at_cell : bit_and digits turns ≡ 0 → NoneBefore p q tile after (cell + 1)
  none_at_cell empty y fits comes lt =
      ⊎_elim
      (λ here. omega (arith, sym (ap (λ w. bit_at w y.placement.turn) empty) ∙ turn_there y fits comes here.1, bit_at-zero y.placement.turn))
      (λ other. let ne = other.1 in none y fits comes (omega (arith, lt, ne)))
      (eqb_tells y.cell cell)

  abbrev pub tile_at : (turn : ℕ) → Pair
  tile_at turn = record { cell = cell; placement = turned_tile tile turn }

  -- the least turn
  least_turn : (turn : ℕ) → bit_at (bit_and digits turns) turn ≡ 1 → ((r : ℕ) → r < turn → bit_at (bit_and digits turns) r ≡ 0) → IsNextFitting p q (Tile tile) after (tile_at turn)
  least_turn turn one lowest =
      let ones = one_in_both digits turns turn one in
      let lt : turn < 4 = ⊎_elim (λ less. less) (λ le. absurd (let above = bit_at_above digits 4 turn few le in let at = ones.0 in omega (arith, above, at))) (lt_or_le turn 4) in
      record {
        fits = (refl, turn_fits turn lt ones.0);
        after_it = (behind turn lt).0 ones.1;
        first = λ y fits comes. by_cell y fits comes (turn_there y fits comes) (lt_or_le y.cell cell) (⊎_elim (λ e. inl e.1) (λ ne. inr ne.1) (eqb_tells y.cell cell));
      }
    where
      by_turn : (y : Pair) → FitsItem p q (Tile tile) y → y.cell ≡ cell → bit_at (bit_and digits turns) y.placement.turn ≡ 1 → (tile_at turn ≡ y) ⊎ ByKey (item_key (Tile tile)) (tile_at turn) y
      by_turn y fits here is_one =
          ⊎_elim
          (λ sooner. absurd (let zero = lowest y.placement.turn sooner in omega (arith, zero, is_one)))
          (λ le.
          ⊎_elim
          (λ same. inl (same_pair (sym here) (same_placement (sym fits.0) same.1)))
          (λ other. let ne = other.1 in inr (inr (sym here, omega (arith, le, ne))))
          (eqb_tells turn y.placement.turn))
          (lt_or_le y.placement.turn turn)

      by_cell : (y : Pair) → FitsItem p q (Tile tile) y → ComesAfterPair (Tile tile) after y → (y.cell ≡ cell → bit_at (bit_and digits turns) y.placement.turn ≡ 1) → (y.cell < cell) ⊎ (cell ≤ y.cell) → ((y.cell ≡ cell) ⊎ (y.cell ≢ cell)) → (tile_at turn ≡ y) ⊎ ByKey (item_key (Tile tile)) (tile_at turn) y
      by_cell y fits comes at (inl sooner) same = absurd (none y fits comes sooner)
      by_cell y fits comes at (inr le) (inl here) = by_turn y fits here (at here)
      by_cell y fits comes at (inr le) (inr ne) = inr (inl (omega (arith, le, ne)))

  pub next_of_tile : bit_and digits turns ≢ 0 → IsNextFitting p q (Tile tile) after (tile_at (trailing_zeros w8 (bit_and digits turns)))
  next_of_tile some =
      let least = and_le_l digits turns in
      let lowest = bit_at-trailing_zeros w8 (bit_and digits turns) (omega (arith, some)) (omega (arith, least, few)) in
      least_turn (trailing_zeros w8 (bit_and digits turns)) lowest.1 lowest.2

-- ---- where the pairs behind one stand

-- the bits of all turns but the first, moved by a turn
pub turns_behind : (turn r : ℕ) → turn < 4 → r < 4 → (bit_at (14 * 2 ^ turn % 2 ^ 8) r ≡ 1) ↔ (turn < r)
turns_behind turn r lt in_range = each_of_four (λ t. (bit_at (14 * 2 ^ t % 2 ^ 8) r ≡ 1) ↔ (t < r))
    (each_of_four (λ k. (bit_at (14 * 2 ^ 0 % 2 ^ 8) k ≡ 1) ↔ (0 < k)) (λ e. omega arith, λ e. omega arith) (λ e. omega arith, λ e. omega arith) (λ e. omega arith, λ e. omega arith) (λ e. omega arith, λ e. omega arith) r in_range)
    (each_of_four (λ k. (bit_at (14 * 2 ^ 1 % 2 ^ 8) k ≡ 1) ↔ (1 < k)) (λ e. omega arith, λ e. omega arith) (λ e. omega arith, λ e. omega arith) (λ e. omega arith, λ e. omega arith) (λ e. omega arith, λ e. omega arith) r in_range)
    (each_of_four (λ k. (bit_at (14 * 2 ^ 2 % 2 ^ 8) k ≡ 1) ↔ (2 < k)) (λ e. omega arith, λ e. omega arith) (λ e. omega arith, λ e. omega arith) (λ e. omega arith, λ e. omega arith) (λ e. omega arith, λ e. omega arith) r in_range)
    (each_of_four (λ k. (bit_at (14 * 2 ^ 3 % 2 ^ 8) k ≡ 1) ↔ (3 < k)) (λ e. omega arith, λ e. omega arith) (λ e. omega arith, λ e. omega arith) (λ e. omega arith, λ e. omega arith) (λ e. omega arith, λ e. omega arith) r in_range)
    turn lt

-- The turns, as bits, are those behind the pair's own.
abbrev AreTurnsOver : Option Pair → (turns : ℕ) → Type 0
AreTurnsOver after turns = (turn : ℕ) → turn < 4 → (bit_at turns turn ≡ 1) ↔ IfSome after (λ x. x.placement.turn < turn)

pub none_behind : (after : Option Pair) → after ≡ None → AreTurnsOver after 15
none_behind after e = subst (λ r. AreTurnsOver r 15) (sym e) (λ turn lt. (λ one. tt, λ all. bit_at_ones 4 turn lt))

pub some_behind : (after : Option Pair) (x : Pair) → after ≡ Some x → IfSome after (λ y. y.placement.turn < 4) → AreTurnsOver after (14 * 2 ^ x.placement.turn % 2 ^ 8)
some_behind after x e small =
    subst (λ r. AreTurnsOver r (14 * 2 ^ x.placement.turn % 2 ^ 8)) (sym e)
    (λ turn lt. turns_behind x.placement.turn turn (subst (λ r. IfSome r (λ y. y.placement.turn < 4)) e small) lt)
