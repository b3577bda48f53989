-- How many options are chosen at most, and how many have one item.
use Rattle.std.proofs.Common.{◌≡◌, ◌⊎◌, ◌||◌, ◌<◌, ◌≤◌, ◌+◌, ◌*◌, ◌++◌, ◌∷◌, [], ℕ, zero, suc, Bool, true, false, List, Some, length, length-append, slice_get, eqb, arith, refl, ap, sym, ◌∙◌, subst, inl, inr, ⊎_elim}
use Rattle.std.specs.List.{IsDistinct, list_any, AllByRecursion}
use Rattle.std.proofs.lemmas.Map.Steps.{length-le_from_distinct_below}
use Rattle.std.proofs.lemmas.Map.Keys.{IsDistinct-cons}
use Rattle.std.proofs.lemmas.Bool.{eqb-true, false≢true}
use Rattle.match_limits.specs.declared.TheConstants.{MOST_CELLS, MOST_CHILDREN, MOST_TILES}
use Rattle.match_board.specs.Board.{cell_count}
use Rattle.match_limits.proofs.Listings.{lt_or_le}
use Rattle.match_puzzle.specs.declared.placements.Pair.{Pair}
use Rattle.match_puzzle.proofs.FittingLemmas.{small_turn}
use Rattle.xcc_form.specs.ExactCover.{HasPrimary}
use Rattle.xcc_form.specs.Options.{Compiled, IsCompiled, cover_of}
use Rattle.xcc_form.specs.Correspondence.{IsPairOf}
use Rattle.xcc_form.proofs.OptionLemmas.{many_options, contains_at, read_in, option_pair, pair_at, primary_of, one_option}
use Rattle.xcc_form.proofs.WholeLemmas.{list_from}
use Rattle.xcc_form.specs.Clashes.{IsOpen}
use Rattle.xcc_form.specs.Chosen.{IsSelection}
use Rattle.xcc_dance.proofs.PartialLemmas.{one_more}
use Rattle.xcc_dance.proofs.ItemLemmas.{is_item, share_cell}
use Rattle.xcc_dance.proofs.SolutionLemmas.{one_option as one_option_of, different}

find_in : (xs : List ℕ) (q : ℕ) → ((i : ℕ) × (slice_get xs i ≡ Some q)) ⊎ AllByRecursion (λ t. eqb q t ≡ false) xs
find_in [] q = inr tt
find_in (y ∷ xs) q = by_test (eqb q y) refl (find_in xs q)
  where
    by_test : (b : Bool) → eqb q y ≡ b → ((i : ℕ) × (slice_get xs i ≡ Some q)) ⊎ AllByRecursion (λ t. eqb q t ≡ false) xs → ((i : ℕ) × (slice_get (y ∷ xs) i ≡ Some q)) ⊎ AllByRecursion (λ t. eqb q t ≡ false) (y ∷ xs)
    by_test true e rest = inl (0, subst (λ n. Some y ≡ Some n) (sym (eqb-true q y e)) refl)
    by_test false e (inl w) = inl (suc w.0, w.1)
    by_test false e (inr none) = inr (e, none)

-- no number stands at two places
abbrev pub AreDifferent : List ℕ → Type 0
AreDifferent xs = (i j q : ℕ) → slice_get xs i ≡ Some q → slice_get xs j ≡ Some q → i ≡ j

are_distinct : (xs : List ℕ) → AreDifferent xs → IsDistinct eqb xs
unfolding IsDistinct
are_distinct [] d = tt
are_distinct (y ∷ xs) d =
    IsDistinct-cons eqb y xs
    (⊎_elim (λ w. absurd (omega (arith, d zero (suc w.0) y refl w.1))) (λ none. none) (find_in xs y))
    (are_distinct xs (λ i j q at at'. let same = d (suc i) (suc j) q at at' in omega (arith, same)))

found_below : (n q : ℕ) (xs : List ℕ) → ((i x : ℕ) → slice_get xs i ≡ Some x → x < n) → list_any (eqb q) xs ≡ true → q < n
found_below n q [] all e = absurd (false≢true e)
found_below n q (y ∷ xs) all e = by_test (eqb q y) refl (λ h. found_below n q xs (λ i x at. all (suc i) x at) h) e
  where
    by_test : (b : Bool) → eqb q y ≡ b → (list_any (eqb q) xs ≡ true → q < n) → (b || list_any (eqb q) xs) ≡ true → q < n
    by_test true t rest h = subst (λ k. k < n) (sym (eqb-true q y t)) (all zero y refl)
    by_test false t rest h = rest h

-- different numbers below a bound are no more than so many
pub few_different : (xs : List ℕ) (n : ℕ) → AreDifferent xs → ((i q : ℕ) → slice_get xs i ≡ Some q → q < n) → length xs ≤ n
few_different xs n apart below = length-le_from_distinct_below xs n (are_distinct xs apart) (λ q e. found_below n q xs below e)

-- things at different places of a list with different keys below a bound are no more than so many
few_keyed : (xs : List ℕ) (n : ℕ) (HasKey : ℕ → ℕ → Type 0) → AreDifferent xs → ((i o : ℕ) → slice_get xs i ≡ Some o → (key : ℕ) × HasKey o key × (key < n))
    → ((i j o o' key : ℕ) → slice_get xs i ≡ Some o → slice_get xs j ≡ Some o' → HasKey o key → HasKey o' key → o ≡ o') → length xs ≤ n
few_keyed xs n HasKey apart keyed same =
    let keys = list_from (length xs) (λ i key. (o : ℕ) × (slice_get xs i ≡ Some o) × HasKey o key × (key < n)) (λ i lt. let o = read_in xs i lt in let k = keyed i o.0 o.1 in (k.0, (o.0, o.1, k.1, k.2))) in
    let long = keys.1 in
    let few = few_different keys.0 n
    (λ i j key at at'.
    let a = keys.2 i key at in
    let b = keys.2 j key at' in
    apart i j b.0 (subst (λ o. slice_get xs i ≡ Some o) (same i j a.0 b.0 key a.1 b.1 a.2 b.2) a.1) b.1)
    (λ i key at. (keys.2 i key at).3) in
    omega (arith, few, long)

same_pair : (y z : Pair) → y.cell ≡ z.cell → y.placement.tile ≡ z.placement.tile → y.placement.turn ≡ z.placement.turn → y ≡ z
same_pair y z cells tiles turns = ap (λ cell. made cell y.placement.tile y.placement.turn) cells ∙ ap (λ tile. made z.cell tile y.placement.turn) tiles ∙ ap (made z.cell z.placement.tile) turns
  where
    made : (cell tile turn : ℕ) → Pair
    made cell tile turn = record { cell = cell; placement = record { tile = tile; turn = turn } }

module _ (x : Compiled) (is : IsCompiled x) where
  abbrev cells : ℕ
  cells = cell_count x.puzzle.board

  few_cells : cells ≤ MOST_CELLS
  few_cells = is.puzzle.board.most

  -- the number of a pair at one cell, by its tile and turn, and of one with one tile, by its cell and turn
  record HasNumber (part : Pair → ℕ) (option number : ℕ) : Type 0 where
    pub y : Pair
    pub is_pair : IsPairOf x option y
    pub number_is : number ≡ 4 * part y + y.placement.turn

  -- different options with one item are at most as many as a branch may have children
  module _ (xs : List ℕ) (item : ℕ) (apart : AreDifferent xs) (has : (i o : ℕ) → slice_get xs i ≡ Some o → HasPrimary (cover_of x) o item) where
    -- below a bound, and told apart by their numbers
    few_by : (part : Pair → ℕ) → ((y : Pair) → y.cell < MOST_CELLS → y.placement.tile < MOST_TILES → part y < MOST_TILES) → ((i o : ℕ) (y : Pair) (j o' : ℕ) (z : Pair) → slice_get xs i ≡ Some o → slice_get xs j ≡ Some o' → IsPairOf x o y → IsPairOf x o' z → part y ≡ part z → (y.cell ≡ z.cell) × (y.placement.tile ≡ z.placement.tile)) → length xs ≤ MOST_CHILDREN
    few_by part small same =
        few_keyed xs MOST_CHILDREN (HasNumber part) apart
        (λ i o at.
        let of = primary_of x is o item (has i o at) in
        let y = of.0 in
        let good = option_pair x is o y of.1 in
        let cell = good.cell in
        let tile = good.legal.tile in
        let few_tiles = is.puzzle.tiles.few in
        let few = few_cells in
        let part_small = small y (omega (arith, cell, few)) (omega (arith, tile, few_tiles)) in
        let turn = small_turn x.puzzle y.placement is.puzzle good.legal in
        (4 * part y + y.placement.turn, record { y = y; is_pair = of.1; number_is = refl }, omega (arith, part_small, turn)))
        (λ i j o o' key at at' k k'.
        let y = k.y in
        let z = k'.y in
        let turn = small_turn x.puzzle y.placement is.puzzle (option_pair x is o y k.is_pair).legal in
        let turn' = small_turn x.puzzle z.placement is.puzzle (option_pair x is o' z k'.is_pair).legal in
        let number = k.number_is in
        let number' = k'.number_is in
        let parts = same i o y j o' z at at' k.is_pair k'.is_pair (omega (arith, turn, turn', number, number')) in
        let turns : y.placement.turn ≡ z.placement.turn = omega (arith, turn, turn', number, number') in
        one_option x is o o' y k.is_pair (subst (IsPairOf x o') (sym (same_pair y z parts.0 parts.1 turns)) k'.is_pair))

    pub few_at : length xs ≤ MOST_CHILDREN
    few_at =
        ⊎_elim
        (λ lt. few_by (λ y. y.placement.tile) (λ y cell tile. tile) (λ i o y j o' z at at' w v same. (cell_is lt i o y at w ∙ sym (cell_is lt j o' z at' v), same)))
        (λ le. few_by (λ y. y.cell) (λ y cell tile. cell) (λ i o y j o' z at at' w v same. (same, let a = tile_is le i o y at w in let b = tile_is le j o' z at' v in omega (arith, a, b))))
        (lt_or_le item cells)
      where
        cell_is : item < cells → (i o : ℕ) (y : Pair) → slice_get xs i ≡ Some o → IsPairOf x o y → y.cell ≡ item
        cell_is lt i o y at w = ⊎_elim (λ e. sym e) (λ e. absurd (omega (arith, lt, e))) (is_item x is o item y w (has i o at))

        tile_is : cells ≤ item → (i o : ℕ) (y : Pair) → slice_get xs i ≡ Some o → IsPairOf x o y → item ≡ cells + y.placement.tile
        tile_is le i o y at w = let cell = (option_pair x is o y w).cell in ⊎_elim (λ e. absurd (omega (arith, le, e, cell))) (λ e. e) (is_item x is o item y w (has i o at))

-- no more options are chosen than there are cells
pub few_chosen : (x : Compiled) (chosen : List ℕ) → IsSelection x chosen → length chosen ≤ cell_count x.puzzle.board
few_chosen x chosen is =
    few_keyed chosen (cell_count x.puzzle.board) (λ o cell. (y : Pair) × IsPairOf x o y × (y.cell ≡ cell)) (different x chosen is)
    (λ i o at.
    let real = is.partial.real o (contains_at chosen i o at) in
    let many = many_options x is.compiled in
    let y = pair_at x is.compiled o (omega (arith, real, many)) in
    (y.0.cell, (y.0, y.1, refl), (option_pair x is.compiled o y.0 y.1).cell))
    (λ i j o o' cell at at' w v.
    let same = w.2 ∙ sym v.2 in
    one_option_of x chosen is o o' (contains_at chosen i o at) (contains_at chosen j o' at') (share_cell x is.compiled o o' w.0 v.0 w.1 v.1 same) (share_cell x is.compiled o' o v.0 w.0 v.1 w.1 (sym same)))

pub room : (x : Compiled) (chosen : List ℕ) (option : ℕ) → IsSelection x chosen → IsOpen (cover_of x) chosen option → length chosen < length x.options
room x chosen option is is_open =
    let partial = one_more (cover_of x) chosen is.partial option is_open in
    let more = chosen ++ option ∷ [] in
    let many = many_options x is.compiled in
    let le = few_different more (length x.options) (different x more (record { compiled = is.compiled; partial = partial })) (λ i o at. let real = partial.real o (contains_at more i o at) in omega (arith, real, many)) in
    let long = length-append chosen (option ∷ []) in
    omega (arith, le, long)
