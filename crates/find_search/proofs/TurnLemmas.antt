-- What is found below chosen options, by the options of an item in turn.
use Rattle.std.proofs.Common.{◌≡◌, ◌⊎◌, ◌<◌, ◌≤◌, ℕ, List, Option, None, Some, IsSomeAnd, IfSome, MatchOption, length, slice_get, unwrap_or, arith, sym, ◌∙◌, ap, subst, inl, inr, ⊎_elim}
use Rattle.std.proofs.lemmas.List.{length-map}
use Rattle.std.proofs.lemmas.Option.{slice_get_within}
use Rattle.match_limits.proofs.Listings.{lt_or_le}
use Rattle.match_limits.proofs.ListLemmas.{place_of}
use Rattle.match_puzzle.proofs.Prefixes.{inside}
use Rattle.match_puzzle.specs.Numbers.{AreSoMany}
use Rattle.match_puzzle.specs.declared.placements.Placement.{Placement}
use Rattle.match_board.specs.Board.{cell_count}
use Rattle.xcc_form.specs.Options.{cover_of, items_of}
use Rattle.xcc_form.specs.Clashes.{IsOpenAt}
use Rattle.xcc_form.specs.Chosen.{Selection, IsSelection, IsUncovered, AreAllCovered, with_option}
use Rattle.xcc_form.specs.Correspondence.{IsSolutionOf}
use Rattle.xcc_form.proofs.WholeLemmas.{are_one_to_one}
use Rattle.xcc_dance.proofs.SizeLemmas.{bound_of, before_next}
use Rattle.xcc_dance.proofs.SolutionLemmas.{is_solution}
use Rattle.count_search.specs.Extensions.{IsExtension}
use Rattle.count_search.proofs.OptionExtensionLemmas.{fewer_options, has_one, of_solution}
use Rattle.count_search.proofs.ExtensionLemmas.{IsNextOrLast, has_open, one_extension}
use Rattle.find_search.specs.declared.turns.Turn.{Turn}
use Rattle.find_search.specs.Turns.{IsInTurn, IsExtensionBy, IsExtensionInTurn}

-- Where there is just one, any two are one.
one_of_one : (Is : List Placement → Type 0) → AreSoMany Is 1 → (a b : List Placement) → Is a → Is b → a ≡ b
one_of_one Is so a b is is' =
    let here = place_of so.all a ((so.just a).1 is) in
    let there = place_of so.all b ((so.just b).1 is') in
    let counted = so.counted in
    let same : here.0 ≡ there.0 = omega (arith, within so.all here.0 a here.1, within so.all there.0 b there.1, counted) in
    inside (sym here.1 ∙ ap (slice_get so.all) same ∙ there.1)
  where
    within : (xs : List (List Placement)) (i : ℕ) (x : List Placement) → slice_get xs i ≡ Some x → i < length xs
    within = slice_get_within

-- The option comes in turn, and before the next one.
abbrev pub IsDone : Selection → Turn → (next : Option ℕ) → (option : ℕ) → Type 0
IsDone s t next option = IsInTurn t option × (option < bound_of (length (cover_of s.compiled).options) next)

module _ (s : Selection) (right : IsSelection s.compiled s.chosen) where
  -- ---- all items are covered

  module _ (covered : AreAllCovered (cover_of s.compiled) s.chosen) where
    -- the arrangement of the chosen options has them
    pub solution_is : (a : List Placement) → IsSolutionOf s.compiled a s.chosen → IsExtension s a
    solution_is a of = of_solution s.compiled right.compiled s.chosen a s.chosen of (λ option c. c)

    -- and no other has
    pub is_the_solution : (a : List Placement) → IsExtension s a → IsSolutionOf s.compiled a s.chosen
    is_the_solution a has =
        let solution = is_solution s.compiled s.chosen right covered in
        let w = (are_one_to_one s.compiled right.compiled).arrangement s.chosen solution in
        let of : IsSolutionOf s.compiled w.0 s.chosen = record { solution = solution; arrangement = w.1; filled = w.2 } in
        subst (λ b. IsSolutionOf s.compiled b s.chosen) (one_of_one (IsExtension s) (one_extension s right covered) w.0 a (solution_is w.0 of) has) of

    pub one_solution : (a b : List Placement) → IsSolutionOf s.compiled a s.chosen → IsSolutionOf s.compiled b s.chosen → a ≡ b
    one_solution a b of of' = one_of_one (IsExtension s) (one_extension s right covered) a b (solution_is a of) (solution_is b of')

  -- ---- the options of an item

  module _ (item : ℕ) (uncovered : IsUncovered (cover_of s.compiled) s.chosen item) where
    -- with one option more it has the chosen ones
    pub has_chosen : (Is : ℕ → Type 0) (a : List Placement) → IsExtensionBy s item Is a → IsExtension s a
    has_chosen Is a w = fewer_options s.compiled s.chosen w.0 a w.3

    -- It has only one of the item's options.
    pub one_by : (Is : ℕ → Type 0) (other : ℕ) → IsOpenAt (cover_of s.compiled) s.chosen item other → (a : List Placement) → (w : IsExtensionBy s item Is a) → IsExtension (with_option s other) a → w.0 ≡ other
    one_by Is other is_open a w has = has_one s.compiled right.compiled s.chosen item uncovered.primary w.0 other w.2.at is_open.at a w.3 has

    -- ---- from a start on, then before it

    module _ (start first : Option ℕ) (h : IsNextOrLast s item None first) (count end : ℕ) (counted : count ≡ length s.compiled.options) (ends : end ≡ unwrap_or start count) where
      abbrev from_start : Turn
      from_start = record { item = item; first = start; end = count }

      abbrev before_start : Turn
      before_start = record { item = item; first = first; end = end }

      in_turn : (first : Option ℕ) → IsNextOrLast s item None first → (option : ℕ) → IsOpenAt (cover_of s.compiled) s.chosen item option → IsSomeAnd first (λ f. f ≤ option)
      in_turn None none option is_open = absurd (none option is_open tt)
      in_turn (Some f) next option is_open = next.first option is_open tt

      real : (option : ℕ) → IsOpenAt (cover_of s.compiled) s.chosen item option → option < count
      real option is_open = let lt = is_open.open_option.real in let same = length-map s.compiled.options (items_of (cell_count s.compiled.puzzle.board)) in omega (arith, lt, same, counted)

      pub both_turns : (a : List Placement) → IsExtension s a → IsExtensionInTurn s from_start a ⊎ IsExtensionInTurn s before_start a
      both_turns a has = let w = has_open s right item uncovered a has in by start ends w.0 w.1 w.2
        where
          by : (start : Option ℕ) → end ≡ unwrap_or start count → (option : ℕ) → IsOpenAt (cover_of s.compiled) s.chosen item option → IsExtension (with_option s option) a
              → IsExtensionInTurn s (record { item = item; first = start; end = count }) a ⊎ IsExtensionInTurn s before_start a
          by None ends option is_open with = inr (option, (in_turn first h option is_open, let lt = real option is_open in omega (arith, lt, ends)), is_open, with)
          by (Some f) ends option is_open with =
              ⊎_elim
              (λ lt. inr (option, (in_turn first h option is_open, omega (arith, lt, ends)), is_open, with))
              (λ le. inl (option, (le, real option is_open), is_open, with))
              (lt_or_le option f)

      pub turns_apart : (a : List Placement) → IsExtensionInTurn s from_start a → IsExtensionInTurn s before_start a → ⊥
      turns_apart a w v = by start ends w.1.0 v.1.1 (one_by (IsInTurn from_start) v.0 v.2 a w v.3)
        where
          by : (start : Option ℕ) → end ≡ unwrap_or start count → IsSomeAnd start (λ f. f ≤ w.0) → v.0 < end → w.0 ≡ v.0 → ⊥
          by None ends none lt same = none
          by (Some f) ends le lt same = omega (arith, le, lt, same, ends)

    -- ---- one option after another

    -- at first none
    pub none_done : (t : Turn) (a : List Placement) → IsExtensionBy s item (IsDone s t t.first) a → ⊥
    none_done t a w = by t.first w.1.0.0 w.1.1
      where
        by : (first : Option ℕ) → IsSomeAnd first (λ f. f ≤ w.0) → w.0 < bound_of (length (cover_of s.compiled).options) first → ⊥
        by None some lt = some
        by (Some f) le lt = omega (arith, le, lt)

    module _ (t : Turn) (option : ℕ) (is_open : IsOpenAt (cover_of s.compiled) s.chosen item option) (comes : IsInTurn t option) where
      pub comes_in_turn : (a : List Placement) → IsExtension (with_option s option) a → IsExtensionBy s item (IsInTurn t) a
      comes_in_turn a has = (option, comes, is_open, has)

      pub not_done : (a : List Placement) → IsExtensionBy s item (IsDone s t (Some option)) a → IsExtension (with_option s option) a → ⊥
      not_done a w has = let same = one_by (IsDone s t (Some option)) option is_open a w has in let lt = w.1.1 in omega (arith, same, lt)

      module _ (next : Option ℕ) (h : IsNextOrLast s item (Some option) next) where
        pub still_done : (a : List Placement) → IsExtensionBy s item (IsDone s t (Some option)) a → IsExtensionBy s item (IsDone s t next) a
        still_done a w =
            let bound = (before_next (cover_of s.compiled) s.chosen item option is_open next h).0 in
            let lt = w.1.1 in
            (w.0, (w.1.0, omega (arith, lt, bound)), w.2, w.3)

        pub now_done : (a : List Placement) → IsExtension (with_option s option) a → IsExtensionBy s item (IsDone s t next) a
        now_done a has = (option, (comes, (before_next (cover_of s.compiled) s.chosen item option is_open next h).0), is_open, has)

        pub done_or_now : (a : List Placement) → IsExtensionBy s item (IsDone s t next) a → IsExtensionBy s item (IsDone s t (Some option)) a ⊎ IsExtension (with_option s option) a
        done_or_now a w =
            let le = (before_next (cover_of s.compiled) s.chosen item option is_open next h).1 w.0 w.2 w.1.1 in
            ⊎_elim
            (λ lt. inl (w.0, (w.1.0, lt), w.2, w.3))
            (λ ge. let same : w.0 ≡ option = omega (arith, le, ge) in inr (subst (λ o. IsExtension (with_option s o) a) same w.3))
            (lt_or_le w.0 option)

    -- what is done came in turn
    pub done_in_turn : (t : Turn) (next : Option ℕ) (a : List Placement) → IsExtensionBy s item (IsDone s t next) a → IsExtensionBy s item (IsInTurn t) a
    done_in_turn t next a w = (w.0, w.1.0, w.2, w.3)

    -- where none comes next, all that come in turn are done
    pub all_done : (t : Turn) (a : List Placement) → IsExtensionBy s item (IsInTurn t) a → IsExtensionBy s item (IsDone s t None) a
    all_done t a w = (w.0, (w.1, w.2.open_option.real), w.2, w.3)

    -- and where the next one comes after the end
    pub all_before : (t : Turn) (option : ℕ) → t.end ≤ option → (a : List Placement) → IsExtensionBy s item (IsInTurn t) a → IsExtensionBy s item (IsDone s t (Some option)) a
    all_before t option end a w = let lt = w.1.1 in (w.0, (w.1, omega (arith, lt, end)), w.2, w.3)

-- The first one comes no later than those after it.
pub comes_from : (first next : Option ℕ) (option : ℕ) → IsSomeAnd first (λ f. f ≤ option) → IfSome next (λ n. option < n) → IfSome next (λ n. IsSomeAnd first (λ f. f ≤ n))
comes_from None next option none after = absurd none
comes_from (Some f) None option le after = tt
comes_from (Some f) (Some n) option le after = omega (arith, le, after)

pub comes_first : (first : Option ℕ) → IfSome first (λ n. IsSomeAnd first (λ f. f ≤ n))
comes_first None = tt
comes_first (Some f) = omega arith

-- What holds of a value, if there is one, holds by cases.
pub by_cases : (o : Option ℕ) (Is : ℕ → Type 0) → IfSome o Is → MatchOption o (Unit {0}) Is
by_cases None Is is = tt
by_cases (Some n) Is is = is
