-- Arrangements that have all options of a list, and those with one option more.
use Rattle.std.proofs.Common.{◌≡◌, ◌<◌, ◌≤◌, ◌+◌, ◌++◌, ◌∷◌, [], ℕ, List, Contains, length, arith, sym, ◌∙◌, subst, inl, inr, ⊎_elim}
use Rattle.std.proofs.lemmas.Bool.Decides.{eqb_tells}
use Rattle.std.proofs.lemmas.List.Elements.{Contains-append_left, Contains-push, Contains-push_cases}
use Rattle.match_limits.proofs.ListLemmas.{contains_none}
use Rattle.match_puzzle.specs.Arrangement.{HasArrangements}
use Rattle.match_puzzle.specs.declared.placements.Placement.{Placement}
use Rattle.match_puzzle.specs.Numbers.{AreSoMany}
use Rattle.match_puzzle.proofs.NumberLemmas.{no_such, same_number, both_kinds}
use Rattle.xcc_form.specs.ExactCover.{HasPrimary, HasColour}
use Rattle.xcc_form.specs.Options.{Compiled, IsCompiled, cover_of}
use Rattle.xcc_form.specs.Correspondence.{IsSolutionOf}
use Rattle.xcc_form.proofs.OptionLemmas.{one_option, many_options, pair_at}
use Rattle.xcc_form.proofs.WholeLemmas.{are_one_to_one}
use Rattle.count_search.specs.OptionExtensions.{HasOptions, HaveOptions}

module _ (x : Compiled) where
  -- what has all options has fewer of them
  pub fewer_options : (options : List ℕ) (option : ℕ) (a : List Placement) → HasOptions x (options ++ option ∷ []) a → HasOptions x options a
  fewer_options options option a has = record { arrangement = has.arrangement; stands = λ other c. has.stands other (Contains-append_left options (option ∷ []) other c) }

  -- all arrangements have no option
  pub nothing_chosen : (count : ℕ) → HaveOptions x [] count → HasArrangements x.puzzle count
  nothing_chosen count so = record {
    all = so.all;
    just = λ a. (
      λ c. ((so.just a).0 c).arrangement,
      λ arranged. (so.just a).1 (record { arrangement = arranged; stands = λ option c. absurd (contains_none option c) }),
    );
    once = so.once;
    counted = so.counted;
  }

-- The arrangement has the options, and one more of this kind, which comes before that one.
abbrev pub HasOneBefore : Compiled → (options : List ℕ) → (Open : ℕ → Type 0) → (bound : ℕ) → List Placement → Type 0
HasOneBefore x options Open bound a = (option : ℕ) × (option < bound) × Open option × HasOptions x (options ++ option ∷ []) a

-- The option shares no primary item with another one, and gives no secondary item another colour.
abbrev pub GoesWith : Compiled → (option other : ℕ) → Type 0
GoesWith x option other =
    ((item : ℕ) → HasPrimary (cover_of x) other item → HasPrimary (cover_of x) option item → other ≡ option)
    × ((item colour colour' : ℕ) → HasColour (cover_of x) other item colour → HasColour (cover_of x) option item colour' → colour ≡ colour')

module _ (x : Compiled) (is : IsCompiled x) where
  -- the solution of an arrangement has its options
  pub solution_of : (options : List ℕ) (a : List Placement) → HasOptions x options a → (solution : List ℕ) × IsSolutionOf x a solution × ((option : ℕ) → Contains options option → Contains solution option)
  solution_of options a has =
      let of = (are_one_to_one x is).solution a has.arrangement in (
        of.0,
        record { solution = of.1; arrangement = has.arrangement; filled = of.2 },
        λ option c.
            let y = has.stands option c in
            let at = of.2.put y.0.cell y.0.placement y.2 in
            subst (Contains of.0) (one_option x is at.0 option y.0 at.2 y.1) at.1,
      )

  -- the arrangement of a solution has the options that the solution has
  pub of_solution : (options : List ℕ) (a : List Placement) (solution : List ℕ) → IsSolutionOf x a solution → ((option : ℕ) → Contains options option → Contains solution option) → HasOptions x options a
  of_solution options a solution of all = record {
    arrangement = of.arrangement;
    stands = λ option c.
        let real = of.solution.real option (all option c) in
        let many = many_options x is in
        let y = pair_at x is option (omega (arith, real, many)) in
        (y.0, y.1, of.filled.stands option y.0 (all option c) y.1);
  }

  module _ (options : List ℕ) (item : ℕ) (primary : item < (cover_of x).primaries) where
    -- it has an option of the item
    pub has_some : (a : List Placement) → HasOptions x options a
        → (option : ℕ) × HasPrimary (cover_of x) option item × (option < length (cover_of x).options) × HasOptions x (options ++ option ∷ []) a × ((other : ℕ) → Contains options other → GoesWith x option other)
    has_some a has =
        let f = solution_of options a has in
        let solution = f.1.solution in
        let by = solution.covered item primary in (
          by.0,
          by.2,
          solution.real by.0 by.1,
          of_solution (options ++ by.0 ∷ []) a f.0 f.1 (λ option c. ⊎_elim (λ old. f.2 option old) (λ e. subst (Contains f.0) e by.1) (Contains-push_cases options by.0 option c)),
          λ other c. (
            λ shared there here. solution.apart shared other by.0 (f.2 other c) by.1 there here,
            λ shared colour colour' there here. solution.coloured shared other by.0 colour colour' (f.2 other c) by.1 there here,
          ),
        )

    -- and no other
    pub has_one : (option other : ℕ) → HasPrimary (cover_of x) option item → HasPrimary (cover_of x) other item → (a : List Placement) → HasOptions x (options ++ option ∷ []) a → HasOptions x (options ++ other ∷ []) a → option ≡ other
    has_one option other at at' a has has' =
        let f = solution_of (options ++ option ∷ []) a has in
        let f' = solution_of (options ++ other ∷ []) a has' in
        let same = (are_one_to_one x is).one_solution a f.0 f'.0 f.1.solution f'.1.solution f.1.filled f'.1.filled in
        let one = (f.1.solution.covered item primary).3 in
        one option (f.2 option (Contains-push options option)) at ∙ sym (one other ((same other).1 (f'.2 other (Contains-push options other))) at')

    -- ---- options of the item of one kind, one after the other

    module _ (Open : ℕ → Type 0) (at : (option : ℕ) → Open option → HasPrimary (cover_of x) option item) where
      abbrev Before : (bound : ℕ) → List Placement → Type 0
      Before bound = HasOneBefore x options Open bound

      pub none_before : (bound : ℕ) → ((option : ℕ) → Open option → option < bound → ⊥) → AreSoMany (Before bound) 0
      none_before bound none = no_such (Before bound) (λ a w. none w.0 w.2 w.1)

      apart : (option : ℕ) → Open option → (a : List Placement) → Before option a → HasOptions x (options ++ option ∷ []) a → ⊥
      apart option is_open a w has = let lt = w.1 in let same = has_one w.0 option (at w.0 w.2) (at option is_open) a w.3 has in omega (arith, lt, same)

      pub one_more_before : (option bound : ℕ) → Open option → option < bound → ((other : ℕ) → Open other → other < bound → other ≤ option)
          → (sum count : ℕ) → AreSoMany (Before option) sum → HaveOptions x (options ++ option ∷ []) count → AreSoMany (Before bound) (sum + count)
      one_more_before option bound is_open within last sum count before here =
          both_kinds (Before option) (HasOptions x (options ++ option ∷ [])) (Before bound) sum count before (apart option is_open) here
          (λ a. (
            λ w. ⊎_elim
                (λ same. inr (subst (λ o. HasOptions x (options ++ o ∷ []) a) same.1 w.3))
                (λ ne. let le = last w.0 w.2 w.1 in inl (w.0, omega (arith, le, ne.1), w.2, w.3))
                (eqb_tells w.0 option),
            λ w. ⊎_elim
                (λ old. let lt = old.1 in (old.0, omega (arith, lt, within), old.2, old.3))
                (λ has. (option, within, is_open, has))
                w,
          ))

      pub all_before : (bound : ℕ) → ((a : List Placement) → HasOptions x options a → Before bound a) → (sum : ℕ) → AreSoMany (Before bound) sum → HaveOptions x options sum
      all_before bound some sum so =
          same_number (Before bound) (HasOptions x options) sum (λ a. (λ w. fewer_options x options w.0 a w.3, some a)) so
