-- The options of a compiled puzzle, by their pairs and by their items.
use Rattle.std.proofs.Common.{◌≡◌, ◌⊎◌, ◌<◌, ◌≤◌, ◌+◌, if◌then◌else◌, ℕ, zero, suc, List, [], ◌∷◌, Some, Contains, length, slice_get, get_or, map, arith, refl, ap, sym, ◌∙◌, subst, inl, inr, ⊎_elim}
use Rattle.std.proofs.lemmas.Bool.Decides.{eqb_tells}
use Rattle.std.proofs.lemmas.List.{length-map}
use Rattle.std.proofs.lemmas.Option.{slice_get_within, slice_get-get_or, get_or_from_slice_get, none-some}
use Rattle.match_board.specs.Board.{cell_count, Meets}
use Rattle.match_limits.proofs.Listings.{lt_or_le}
use Rattle.match_board.proofs.Places.{Meets-turned}
use Rattle.match_puzzle.specs.Puzzle.{Task, AllHaveToStand}
use Rattle.match_puzzle.specs.declared.placements.Pair.{Pair}
use Rattle.match_puzzle.proofs.Prefixes.{inside}
use Rattle.xcc_form.specs.ExactCover.{ItemSet, HasPrimary, HasColour}
use Rattle.xcc_form.specs.Options.{Compiled, IsCompiled, IsOptionPair, IsSideOf, IsShownEdge, PairComesBefore, pair_of, items_of, cover_of, item_count, primary_count}
use Rattle.xcc_form.specs.Correspondence.{IsPairOf}
use Rattle.xcc_form.specs.declared.edges.Edge.{Edge}
use Rattle.xcc_form.specs.declared.edges.SharedEdge.{SharedEdge}
use Rattle.xcc_form.proofs.EdgeLemmas.{other_cell}

-- ---- lists

pub contains_at : {X : Type 0} (xs : List X) (i : ℕ) (y : X) → slice_get xs i ≡ Some y → Contains xs y
contains_at xs i y at = (i, slice_get_within xs i y at, get_or_from_slice_get xs i y y at)

pub place_of : {X : Type 0} (xs : List X) (y : X) → Contains xs y → (i : ℕ) × (slice_get xs i ≡ Some y)
place_of xs y c = (c.0, slice_get-get_or xs c.0 y c.1 ∙ ap Some c.2)

pub read_in : {X : Type 0} (xs : List X) (i : ℕ) → i < length xs → (y : X) × (slice_get xs i ≡ Some y)
read_in [] i lt = absurd (omega arith)
read_in (x ∷ xs) zero lt = (x, refl)
read_in (x ∷ xs) (suc i) lt = read_in xs i (omega (arith, lt))

pub of_map : {X Y : Type 0} (f : X → Y) (xs : List X) (i : ℕ) (y : Y) → slice_get (map f xs) i ≡ Some y → (x : X) × (slice_get xs i ≡ Some x) × (f x ≡ y)
of_map f [] i y at = absurd (none-some y at)
of_map f (x ∷ xs) zero y at = (x, refl, inside at)
of_map f (x ∷ xs) (suc i) y at = of_map f xs i y at

to_map : {X Y : Type 0} (f : X → Y) (xs : List X) (i : ℕ) (x : X) → slice_get xs i ≡ Some x → slice_get (map f xs) i ≡ Some (f x)
to_map f [] i x at = absurd (none-some x at)
to_map f (y ∷ xs) zero x at = ap (λ z. Some (f z)) (inside at)
to_map f (y ∷ xs) (suc i) x at = to_map f xs i x at

in_two : (a b item : ℕ) → Contains (a ∷ b ∷ []) item → (item ≡ a) ⊎ (item ≡ b)
in_two a b item c = by_place c.0 c.1 c.2
  where
    by_place : (i : ℕ) → i < length (a ∷ b ∷ []) → get_or (a ∷ b ∷ []) i item ≡ item → (item ≡ a) ⊎ (item ≡ b)
    by_place zero lt e = inl (sym e)
    by_place (suc zero) lt e = inr (sym e)
    by_place (suc (suc i)) lt e = absurd (omega (arith, lt))

-- a pair does not come before itself, nor before one that comes before it
pub irreflexive : (x : Pair) → PairComesBefore x x → ⊥
irreflexive x before = ⊎_elim (λ lt. omega (arith, lt)) (λ w. ⊎_elim (λ lt. omega (arith, lt)) (λ v. omega (arith, v.1)) w.1) before

-- which items are primary
pub primaries_are : (p : Task) → (AllHaveToStand p × (primary_count p ≡ item_count p)) ⊎ ((AllHaveToStand p → ⊥) × (primary_count p ≡ cell_count p.board))
primaries_are p =
    ⊎_elim
    (λ w. inl (w.1, ap (λ b. if b then item_count p else cell_count p.board) w.0))
    (λ w. inr (w.1, ap (λ b. if b then item_count p else cell_count p.board) w.0))
    (eqb_tells (length p.words) (cell_count p.board))

pub few_primaries : (p : Task) → primary_count p ≤ item_count p
few_primaries p = ⊎_elim (λ w. let e = w.1 in omega (arith, e)) (λ w. let e = w.1 in omega (arith, e)) (primaries_are p)

-- each cell is a primary item
pub cell_is_primary : (p : Task) (cell : ℕ) → cell < cell_count p.board → cell < primary_count p
cell_is_primary p cell lt = ⊎_elim (λ w. let e = w.1 in omega (arith, e, lt)) (λ w. let e = w.1 in omega (arith, e, lt)) (primaries_are p)

module _ (x : Compiled) (is : IsCompiled x) where
  -- ---- by pairs

  pub option_pair : (option : ℕ) (y : Pair) → IsPairOf x option y → IsOptionPair x.puzzle y
  option_pair option y w = is.pairs.only y (contains_at (map pair_of x.options) option y (to_map pair_of x.options option w.0 w.1 ∙ ap Some w.2))

  pub option_for : (y : Pair) → IsOptionPair x.puzzle y → (option : ℕ) × IsPairOf x option y
  option_for y good =
      let at = place_of (map pair_of x.options) y (is.pairs.all y good) in
      let of = of_map pair_of x.options at.0 y at.1 in
      (at.0, (of.0, of.1, of.2))

  pub pairs_rise : (option option' : ℕ) (y z : Pair) → option < option' → IsPairOf x option y → IsPairOf x option' z → PairComesBefore y z
  pairs_rise option option' y z lt w v =
      let pairs = map pair_of x.options in
      let here = to_map pair_of x.options option w.0 w.1 ∙ ap Some w.2 in
      let there = to_map pair_of x.options option' v.0 v.1 ∙ ap Some v.2 in
      let rising = is.pairs.rising option option' y lt (slice_get_within pairs option' z there) in
      subst (λ u. PairComesBefore u z) (get_or_from_slice_get pairs option y y here) (subst (PairComesBefore (get_or pairs option y)) (get_or_from_slice_get pairs option' z y there) rising)

  pub one_option : (option option' : ℕ) (y : Pair) → IsPairOf x option y → IsPairOf x option' y → option ≡ option'
  one_option option option' y w v =
      let not_before : (option < option' → ⊥) = λ lt. irreflexive y (pairs_rise option option' y y lt w v) in
      let not_after : (option' < option → ⊥) = λ lt. irreflexive y (pairs_rise option' option y y lt v w) in
      omega (arith, not_before, not_after)

  pub one_pair : (option : ℕ) (y z : Pair) → IsPairOf x option y → IsPairOf x option z → y ≡ z
  one_pair option y z w v = sym w.2 ∙ ap pair_of (inside (sym w.1 ∙ v.1)) ∙ v.2

  pub real_option : (option : ℕ) (y : Pair) → IsPairOf x option y → option < length x.options
  real_option option y w = slice_get_within x.options option w.0 w.1

  pub pair_at : (option : ℕ) → option < length x.options → (y : Pair) × IsPairOf x option y
  pair_at option lt = let at = read_in x.options option lt in (pair_of at.0, (at.0, at.1, refl))

  -- ---- by items

  pub many_options : length (cover_of x).options ≡ length x.options
  many_options = length-map x.options (items_of (cell_count x.puzzle.board))

  -- The item is the pair's cell or its tile.
  abbrev pub IsItemOf : Pair → ℕ → Type 0
  IsItemOf y item = (item ≡ y.cell) ⊎ (item ≡ cell_count x.puzzle.board + y.placement.tile)

  pub primary_of : (option item : ℕ) → HasPrimary (cover_of x) option item → (y : Pair) × IsPairOf x option y × IsItemOf y item
  primary_of option item w =
      let of = of_map (items_of (cell_count x.puzzle.board)) x.options option w.0 w.1 in
      let c = of.0 in
      let here = subst (λ (s : ItemSet). Contains s.primary item) (sym of.2) w.2 in
      (pair_of c, (c, of.1, refl), in_two c.pair.cell (cell_count x.puzzle.board + c.pair.placement.tile) item here)

  pub has_cell : (option : ℕ) (y : Pair) → IsPairOf x option y → HasPrimary (cover_of x) option y.cell
  has_cell option y w = (items_of (cell_count x.puzzle.board) w.0, to_map (items_of (cell_count x.puzzle.board)) x.options option w.0 w.1, (0, omega arith, ap (λ (z : Pair). z.cell) w.2))

  pub has_tile : (option : ℕ) (y : Pair) → IsPairOf x option y → HasPrimary (cover_of x) option (cell_count x.puzzle.board + y.placement.tile)
  has_tile option y w = (items_of (cell_count x.puzzle.board) w.0, to_map (items_of (cell_count x.puzzle.board)) x.options option w.0 w.1, (1, omega arith, ap (λ (z : Pair). cell_count x.puzzle.board + z.placement.tile) w.2))

  pub colour_at : (option item colour : ℕ) → HasColour (cover_of x) option item colour → (y : Pair) × IsPairOf x option y × IsShownEdge x.puzzle x.shared y (record { item = item; colour = colour })
  colour_at option item colour w =
      let of = of_map (items_of (cell_count x.puzzle.board)) x.options option w.0 w.1 in
      let c = of.0 in
      let here = subst (λ (s : ItemSet). Contains s.coloured (record { item = item; colour = colour })) (sym of.2) w.2 in
      (pair_of c, (c, of.1, refl), (is.edges option c of.1).only (record { item = item; colour = colour }) here)

  pub has_colour : (option item colour : ℕ) (y : Pair) → IsPairOf x option y → IsShownEdge x.puzzle x.shared y (record { item = item; colour = colour }) → HasColour (cover_of x) option item colour
  has_colour option item colour y w shown =
      let e : Edge = record { item = item; colour = colour } in (
        items_of (cell_count x.puzzle.board) w.0,
        to_map (items_of (cell_count x.puzzle.board)) x.options option w.0 w.1,
        (is.edges option w.0 w.1).all e (subst (λ z. IsShownEdge x.puzzle x.shared z e) (sym w.2) shown),
      )

  -- ---- sides that meet are a shared edge

  pub shared_by : (cell side cell' side' : ℕ) → Meets x.puzzle.board cell side cell' side' → (number : ℕ) × (e : SharedEdge) × (slice_get x.shared number ≡ Some e) × IsSideOf e cell side × IsSideOf e cell' side'
  shared_by cell side cell' side' meets =
      ⊎_elim
      (λ lt.
      let e : SharedEdge = record { cell = cell; side = side; other_cell = cell'; other_side = side' } in
      let at = place_of x.shared e (is.shared.all e (meets, inl lt)) in
      (at.0, e, at.1, inl (refl, refl), inr (refl, refl)))
      (λ le.
      let ne = other_cell meets in
      let e : SharedEdge = record { cell = cell'; side = side'; other_cell = cell; other_side = side } in
      let at = place_of x.shared e (is.shared.all e (Meets-turned meets, inl (omega (arith, le, ne)))) in
      (at.0, e, at.1, inr (refl, refl), inl (refl, refl)))
      (lt_or_le cell cell')
