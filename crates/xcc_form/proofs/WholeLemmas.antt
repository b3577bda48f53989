-- Each solution has one arrangement, and each arrangement one solution.
use Rattle.std.proofs.Common.{◌≡◌, ◌<◌, ℕ, zero, suc, List, [], ◌∷◌, Some, Contains, length, slice_get, get_or, arith, refl, ap, sym, ◌∙◌, subst, ⊎_elim}
use Rattle.std.proofs.lemmas.Option.{slice_get_within, slice_get-get_or, none-some}
use Rattle.match_board.specs.Board.{cell_count}
use Rattle.match_limits.specs.Listing.{IsListing}
use Rattle.match_puzzle.specs.Arrangement.{IsArrangement, Stands}
use Rattle.match_puzzle.specs.declared.placements.Placement.{Placement}
use Rattle.match_puzzle.specs.declared.placements.Pair.{Pair}
use Rattle.match_puzzle.proofs.Prefixes.{inside}
use Rattle.xcc_form.specs.ExactCover.{IsSolution}
use Rattle.xcc_form.specs.Options.{Compiled, IsCompiled, cover_of}
use Rattle.xcc_form.specs.Correspondence.{IsPairOf, IsFilledBy, AreByCell}
use Rattle.xcc_form.specs.Laws.{AreOneToOne}
use Rattle.xcc_form.proofs.OptionLemmas.{option_pair, option_for, one_option, one_pair, real_option, pair_at, pairs_rise, many_options, contains_at, place_of, read_in}
use Rattle.xcc_form.proofs.SolutionLemmas.{pair, stands_one, chosen_at, one_chosen_at, solution_stands, whole_solves}

-- a list of what each place has
pub list_from : {X : Type 0} (n : ℕ) (R : ℕ → X → Type 0) → ((i : ℕ) → i < n → (y : X) × R i y) → (xs : List X) × (length xs ≡ n) × ((i : ℕ) (y : X) → slice_get xs i ≡ Some y → R i y)
list_from zero R each = ([], refl, λ i y at. absurd (none-some y at))
list_from {X} (suc n) R each =
    let first = each 0 (omega arith) in
    let rest = list_from n (λ i y. R (suc i) y) (λ i lt. each (suc i) (omega (arith, lt))) in
    (first.0 ∷ rest.0, omega (arith, rest.1), by_place first.0 first.1 rest.0 rest.2)
  where
    by_place : (z : X) → R 0 z → (zs : List X) → ((i : ℕ) (y : X) → slice_get zs i ≡ Some y → R (suc i) y) → (i : ℕ) (y : X) → slice_get (z ∷ zs) i ≡ Some y → R i y
    by_place z r zs others zero y at = subst (R 0) (inside at) r
    by_place z r zs others (suc i) y at = others i y at

-- lists of one length, where all of the one stands in the other, are one
same_whole : (a b : List Placement) → length a ≡ length b → ((cell : ℕ) (y : Placement) → Stands b cell y → Stands a cell y) → a ≡ b
same_whole [] [] long same = refl
same_whole [] (y ∷ b) long same = absurd (omega (arith, long))
same_whole (y ∷ a) [] long same = absurd (omega (arith, long))
same_whole (y ∷ a) (z ∷ b) long same = ap (λ q. q ∷ a) (inside (same 0 z refl)) ∙ ap (λ c. z ∷ c) (same_whole a b (omega (arith, long)) (λ cell q s. same (suc cell) q s))

module _ (x : Compiled) (is : IsCompiled x) where
  -- ---- the arrangement of a solution

  module _ (chosen : List ℕ) (solution : IsSolution (cover_of x) chosen) where
    Put : ℕ → Placement → Type 0
    Put cell y = (option : ℕ) × Contains chosen option × IsPairOf x option (pair cell y)

    put_at : (cell : ℕ) → cell < cell_count x.puzzle.board → (y : Placement) × Put cell y
    unfolding Put
    put_at cell lt =
        let o = chosen_at x is chosen solution cell lt in
        let y = o.1 in
        (y.placement, (o.0, o.2, subst (λ k. IsPairOf x o.0 (pair k y.placement)) o.4 o.3))

    pub arrangement_of_solution : (a : List Placement) × IsArrangement x.puzzle a × IsFilledBy x chosen a
    unfolding Put
    arrangement_of_solution =
        let made = list_from (cell_count x.puzzle.board) Put put_at in
        let same : IsFilledBy x chosen made.0 = record {
          cells = made.1;
          stands = λ option y c w. stands_there made.0 made.1 made.2 option y c w;
          put = λ cell y s. made.2 cell y s;
        } in
        (made.0, solution_stands x is chosen solution made.0 same, same)
      where
        stands_there : (a : List Placement) → length a ≡ cell_count x.puzzle.board → ((cell : ℕ) (z : Placement) → Stands a cell z → Put cell z) → (option : ℕ) (y : Pair) → Contains chosen option → IsPairOf x option y → Stands a y.cell y.placement
        stands_there a long each option y c w =
            let within = (option_pair x is option y w).cell in
            let here = read_in a y.cell (omega (arith, within, long)) in
            let o = each y.cell here.0 here.1 in
            let both = one_chosen_at x is chosen solution option o.0 y (pair y.cell here.0) c o.1 w o.2 refl in
            let pairs : pair y.cell here.0 ≡ y = one_pair x is option (pair y.cell here.0) y (subst (λ n. IsPairOf x n (pair y.cell here.0)) (sym both) o.2) w in
            here.1 ∙ ap (λ (q : Pair). Some q.placement) pairs

  pub one_arrangement : (chosen : List ℕ) (a b : List Placement) → IsFilledBy x chosen a → IsFilledBy x chosen b → a ≡ b
  one_arrangement chosen a b s t =
      same_whole a b (s.cells ∙ sym t.cells)
      (λ cell y at. let o = t.put cell y at in s.stands o.0 (pair cell y) o.1 o.2)

  -- ---- the solution of an arrangement

  -- The option's pair stands there.
  abbrev pub StandsIn : List Placement → ℕ → Type 0
  StandsIn a option = (y : Pair) × IsPairOf x option y × Stands a y.cell y.placement

  module _ (a : List Placement) (whole : IsArrangement x.puzzle a) where
    At : ℕ → ℕ → Type 0
    At cell option = (y : Placement) × Stands a cell y × IsPairOf x option (pair cell y)

    option_at : (cell : ℕ) → cell < length a → (option : ℕ) × At cell option
    unfolding At
    option_at cell lt =
        let here = read_in a cell lt in
        let o = option_for x is (pair cell here.0) (record {
          cell = let long = whole.cells in omega (arith, lt, long);
          legal = whole.legal cell here.0 here.1;
          border = λ side colour rule. whole.border cell side colour here.0 here.1 rule;
        }) in
        (o.0, (here.0, here.1, o.1))

    module _ (chosen : List ℕ) (long : length chosen ≡ length a) (each : (cell option : ℕ) → slice_get chosen cell ≡ Some option → (y : Placement) × Stands a cell y × IsPairOf x option (pair cell y)) where
      by_cell_is : AreByCell x a chosen
      by_cell_is = record {
        long = long;
        each = λ cell option y at s.
            let found = each cell option at in
            subst (λ z. IsPairOf x option (pair cell z)) (stands_one a cell found.0 y found.1 s) found.2;
      }

      one_place : (place place' option : ℕ) → slice_get chosen place ≡ Some option → slice_get chosen place' ≡ Some option → place ≡ place'
      one_place place place' option at at' =
          let here = each place option at in
          let there = each place' option at' in
          ap (λ (q : Pair). q.cell) (one_pair x is option (pair place here.0) (pair place' there.0) here.2 there.2)

      all_there : (option : ℕ) (y : Pair) → IsPairOf x option y → Stands a y.cell y.placement → Contains chosen option
      all_there option y w s =
          let at = read_in chosen y.cell (let within = slice_get_within a y.cell y.placement s in omega (arith, within, long)) in
          let found = each y.cell at.0 at.1 in
          let placement = stands_one a y.cell found.0 y.placement found.1 s in
          let both = one_option x is at.0 option y (subst (λ z. IsPairOf x at.0 (pair y.cell z)) placement found.2) w in
          subst (Contains chosen) both (contains_at chosen y.cell at.0 at.1)

      by_cell_same : IsFilledBy x chosen a
      by_cell_same = record {
        cells = whole.cells;
        stands = λ option y c w.
            let at = place_of chosen option c in
            let found = each at.0 option at.1 in
            let pairs = one_pair x is option (pair at.0 found.0) y found.2 w in
            subst (λ (q : Pair). Stands a q.cell q.placement) pairs found.1;
        put = λ cell y s.
            let at = read_in chosen cell (let within = slice_get_within a cell y s in omega (arith, within, long)) in
            let found = each cell at.0 at.1 in
            (at.0, contains_at chosen cell at.0 at.1, subst (λ z. IsPairOf x at.0 (pair cell z)) (stands_one a cell found.0 y found.1 s) found.2);
      }

      by_cell_solves : IsSolution (cover_of x) chosen
      by_cell_solves =
          whole_solves x is a whole chosen by_cell_same
          (λ option c. let at = place_of chosen option c in let found = each at.0 option at.1 in real_option x is option (pair at.0 found.0) found.2)
          one_place

      -- later cells have later options
      rises : (place place' option option' : ℕ) → place < place' → slice_get chosen place ≡ Some option → slice_get chosen place' ≡ Some option' → option < option'
      rises place place' option option' lt at at' =
          let here = each place option at in
          let there = each place' option' at' in
          let not_same : (option ≡ option' → ⊥) = λ e. let same = one_place place place' option at (subst (λ n. slice_get chosen place' ≡ Some n) (sym e) at') in omega (arith, lt, same) in
          let not_after : (option' < option → ⊥) = λ after. ⊎_elim (λ l. omega (arith, l, lt)) (λ e. omega (arith, e.0, lt)) (pairs_rise x is option' option (pair place' there.0) (pair place here.0) after there.2 here.2) in
          omega (arith, not_same, not_after)

      by_cell_listed : IsListing ◌<◌ (StandsIn a) chosen
      by_cell_listed = record {
        only = λ option c. let at = place_of chosen option c in let found = each at.0 option at.1 in (pair at.0 found.0, found.2, found.1);
        all = λ option w. all_there option w.0 w.1 w.2;
        rising = λ i j d lt in_range. rises i j (get_or chosen i d) (get_or chosen j d) lt (slice_get-get_or chosen i d (omega (arith, lt, in_range))) (slice_get-get_or chosen j d in_range);
      }

    -- the options by cell
    pub record AreFound (chosen : List ℕ) : Type 0 where
      pub same : IsFilledBy x chosen a
      pub solution : IsSolution (cover_of x) chosen
      pub by_cell : AreByCell x a chosen
      pub listed : IsListing ◌<◌ (StandsIn a) chosen

    pub solution_of_arrangement : (chosen : List ℕ) × AreFound chosen
    unfolding At
    solution_of_arrangement =
        let made = list_from (length a) At option_at in (
          made.0,
          record {
            same = by_cell_same made.0 made.1 made.2;
            solution = by_cell_solves made.0 made.1 made.2;
            by_cell = by_cell_is made.0 made.1 made.2;
            listed = by_cell_listed made.0 made.1 made.2;
          },
        )

  pub also_there : (a : List Placement) (chosen other : List ℕ) → IsSolution (cover_of x) chosen → IsFilledBy x chosen a → IsFilledBy x other a → (option : ℕ) → Contains chosen option → Contains other option
  also_there a chosen other solution s t option c =
      let lt = solution.real option c in
      let many = many_options x is in
      let y = pair_at x is option (omega (arith, lt, many)) in
      let stands = s.stands option y.0 c y.1 in
      let q = y.0 in
      let o = t.put q.cell q.placement stands in
      subst (Contains other) (one_option x is o.0 option q o.2 y.1) o.1

  pub are_one_to_one : AreOneToOne x
  are_one_to_one = record {
    arrangement = arrangement_of_solution;
    one_arrangement = one_arrangement;
    solution = λ a whole. let found = solution_of_arrangement a whole in let chosen = found.0 in let are = found.1 in (chosen, are.solution, are.same);
    one_solution = λ a chosen other solution solution' s t option. (also_there a chosen other solution s t option, also_there a other chosen solution' t s option);
  }
