-- Equal entries of a list, found among its sorted places.
use Rattle.std.proofs.Common.{◌≡◌, ◌≢◌, ◌<◌, ◌≤◌, ◌+◌, ◌-◌, ◌==◌, ◌⊎◌, ℕ, Bool, true, false, List, [], ◌∷◌, ◌++◌, Option, Some, None, slice_get, get_or, Contains, IsTrue, ◌↔◌, MatchOption, length, min, IsSorted, IsPermutation, refl, ap, sym, ◌∙◌, subst, arith, inl, inr, ⊎_elim, true≢false, eq-eqb, eqb-true}
use Rattle.std.specs.declared.cmp.Ordering.{Ordering}
use Rattle.std.specs.declared.cmp.Ordering.TheVariants.{Less, Equal, Greater}
use Rattle.std.specs.Ordering.{nat_cmp, ordering_then, ordering_reverse, is_lt, is_gt, is_some_and, partial_ordering_then}
use Rattle.std.specs.Cmp.{IsTotalOrder, nat_cmp_is, Some-then}
use Rattle.std.specs.Cmp.Lexicographic.{slice_cmp, slice_partial_cmp, options_total, lists_agrees, pointwise}
use Rattle.std.specs.Bool.{Decides}
use Rattle.std.specs.List.{IsAllAdjacentAnswer}
use Rattle.std.specs.List.Sorted.{IsStrictlySortedBy}
use Rattle.std.specs.Option.{option_cmp}
use Rattle.std.proofs.lemmas.Bool.{cases_lt, cases_eq}
use Rattle.std.proofs.lemmas.Bool.Decides.{Decides-and, Decides-eqb}
use Rattle.std.proofs.lemmas.Slice.Eq.{slice_eq-Decides}
use Rattle.std.proofs.lemmas.Cmp.{ranked, tied_itself, nat_cmp_total, nat_eq_equiv, on_total, then_total, lists_total}
use Rattle.std.proofs.lemmas.List.{get_or_default, length-append}
use Rattle.std.proofs.lemmas.List.Sorted.{Contains-permutation, IsPermutation-sym}
use Rattle.std.proofs.lemmas.Map.Keys.{IsDistinct-IsPermutation, IsDistinct-from_apart, apart_from_distinct, sorted_from_all_adjacent, Less-from_sorted}
use Rattle.std.proofs.lemmas.Option.{slice_get_within, slice_get_read, get_or_from_slice_get}
use Rattle.match_limits.specs.First.{IsLeast}
use Rattle.match_puzzle.specs.Equality.{is_same}
use Rattle.match_puzzle.specs.declared.placements.Placement.{Placement}
use Rattle.match_puzzle.proofs.FittingLemmas.{same_placement}
use Rattle.match_puzzle.proofs.EqualityLemmas.{same_entry}
use Rattle.match_puzzle.proofs.Prefixes.{inside}
use Rattle.match_puzzle.specs.Arrangement.{AreDistinct}
use Rattle.cert_check.specs.Answer.{RepeatsEarlier}
use Rattle.cert_check.specs.Repeats.{AreEqualAt, AreItsPlaces, key_of, placement_cmp, entry_cmp, keyed_cmp}
use Rattle.cert_check.specs.declared.repeats.KeyedPlace.{KeyedPlace}
use Rattle.match_limits.proofs.ListLemmas.{none≢some, contains_at, member_at, place_of, pushed_place}

-- ---- the orders

pub placement_total : IsTotalOrder placement_cmp
placement_total = then_total (on_total (λ (x : Placement). x.tile) nat_cmp_total) (on_total (λ (x : Placement). x.turn) nat_cmp_total)

both_equal : (o p : Ordering) → ordering_then o p ≡ Equal → (o ≡ Equal) × (p ≡ Equal)
both_equal Less p e = cc
both_equal Equal p e = (refl, e)
both_equal Greater p e = cc

placement_tie : (x y : Placement) → placement_cmp x y ≡ Equal → x ≡ y
placement_tie x y e =
    let w = both_equal (nat_cmp x.tile y.tile) (nat_cmp x.turn y.turn) e in
    same_placement (ranked x.tile y.tile Equal (sym w.0)) (ranked x.turn y.turn Equal (sym w.1))

list_tie : (xs ys : List Placement) → slice_cmp placement_cmp xs ys ≡ Equal → xs ≡ ys
list_tie [] [] e = refl
list_tie [] (y ∷ ys) e = cc
list_tie (x ∷ xs) [] e = cc
list_tie (x ∷ xs) (y ∷ ys) e =
    let w = both_equal (placement_cmp x y) (slice_cmp placement_cmp xs ys) e in
    ap (λ z. z ∷ xs) (placement_tie x y w.0) ∙ ap (λ zs. y ∷ zs) (list_tie xs ys w.1)

entry_tie : (a b : Option (List Placement)) → option_cmp (slice_cmp placement_cmp) a b ≡ Equal → a ≡ b
entry_tie None None e = refl
entry_tie None (Some b) e = cc
entry_tie (Some a) None e = cc
entry_tie (Some a) (Some b) e = ap Some (list_tie a b e)

abbrev pub first_place : KeyedPlace
first_place = record { key = 0; place = 0 }

-- the entry that is read at a place
pub entry_at : (listed : List (List Placement)) (n : ℕ) (a : List Placement) → n < length listed → a ≡ get_or listed n a → slice_get listed n ≡ Some a
entry_at listed n a lt is = slice_get_read listed _ n a refl lt is

pub are_equal_told : (listed : List (List Placement)) (x y : KeyedPlace) (a b : List Placement) (r : Bool) → slice_get listed x.place ≡ Some a → slice_get listed y.place ≡ Some b → r ≡ pointwise is_same a b → IsTrue r ↔ AreEqualAt listed x y
are_equal_told listed x y a b r at at' is = (
  λ so. (a, at, at' ∙ ap Some (sym ((same_entry a b).0 (sym is ∙ so)))),
  λ (w : AreEqualAt listed x y). is ∙ (same_entry a b).1 (inside (sym at ∙ w.1) ∙ sym (inside (sym at' ∙ w.2))),
)

-- ---- the sorted places

-- the one at a place of the order
abbrev pub at_place : List KeyedPlace → ℕ → KeyedPlace
at_place places n = get_or places n first_place

-- One of the places from 1 on, below the bound, has this number, and an entry that equals that of the place before.
abbrev pub RepeatsNeighbour : List (List Placement) → List KeyedPlace → (bound number : ℕ) → Type 0
RepeatsNeighbour listed places bound number =
    (next : ℕ) × (1 ≤ next) × (next < bound) × (next < length places) × AreEqualAt listed (at_place places (next - 1)) (at_place places next) × ((at_place places next).place ≡ number)

-- the least such number, or none where there is none
abbrev pub LeastNeighbour : List (List Placement) → List KeyedPlace → (bound : ℕ) → Option ℕ → Type 0
LeastNeighbour listed places bound least =
    MatchOption least ((number : ℕ) → RepeatsNeighbour listed places bound number → ⊥) (IsLeast (RepeatsNeighbour listed places bound))

module _ (listed : List (List Placement)) where
  entry_total : IsTotalOrder (entry_cmp listed)
  entry_total = then_total (on_total (λ (x : KeyedPlace). x.key) nat_cmp_total) (on_total (λ (x : KeyedPlace). slice_get listed x.place) (options_total (lists_total placement_total)))

  pub keyed_total : IsTotalOrder (keyed_cmp listed)
  keyed_total = then_total entry_total (on_total (λ (x : KeyedPlace). x.place) nat_cmp_total)

  content_itself : (a : List Placement) → slice_cmp placement_cmp a a ≡ Equal
  content_itself = tied_itself (lists_total placement_total)

  -- places with one key and equal entries tie, and places that tie have equal entries
  tie : (x y : KeyedPlace) → x.key ≡ y.key → AreEqualAt listed x y → entry_cmp listed x y ≡ Equal
  tie x y same w =
      ap (λ h. ordering_then (nat_cmp x.key h) (option_cmp (slice_cmp placement_cmp) (slice_get listed x.place) (slice_get listed y.place))) (sym same)
      ∙ ap (λ o. ordering_then o (option_cmp (slice_cmp placement_cmp) (slice_get listed x.place) (slice_get listed y.place))) (tied_itself nat_cmp_total x.key)
      ∙ ap (λ o. option_cmp (slice_cmp placement_cmp) o (slice_get listed y.place)) w.1
      ∙ ap (λ o. option_cmp (slice_cmp placement_cmp) (Some w.0) o) w.2
      ∙ content_itself w.0

  tied : (x y : KeyedPlace) → x.place < length listed → entry_cmp listed x y ≡ Equal → AreEqualAt listed x y
  tied x y within e =
      let w = both_equal (nat_cmp x.key y.key) (option_cmp (slice_cmp placement_cmp) (slice_get listed x.place) (slice_get listed y.place)) e in
      let a = member_at listed x.place within in
      (a.0, a.1, sym (entry_tie (slice_get listed x.place) (slice_get listed y.place) w.1) ∙ a.1)

  -- a place that is not greater by both, and not less
  not_greater : (o p : Ordering) → ordering_then o p ≡ Less → is_gt o ≡ false
  not_greater Less p e = refl
  not_greater Equal p e = refl
  not_greater Greater p e = cc

  between : (o : Ordering) → is_gt o ≡ false → is_gt (ordering_reverse o) ≡ false → o ≡ Equal
  between Less p q = cc
  between Equal p q = refl
  between Greater p q = cc

  rises_or_ties : (o : Ordering) → is_lt (ordering_reverse o) ≡ false → (o ≡ Less) ⊎ (o ≡ Equal)
  rises_or_ties Less e = inl refl
  rises_or_ties Equal e = inr refl
  rises_or_ties Greater e = cc

  place_less : (x y : KeyedPlace) → entry_cmp listed x y ≡ Equal → keyed_cmp listed x y ≡ Less → x.place < y.place
  place_less x y e r = ranked x.place y.place Less (sym (ap (λ o. ordering_then o (nat_cmp x.place y.place)) (sym e) ∙ r))

  less_place : (x y : KeyedPlace) → entry_cmp listed x y ≡ Equal → x.place < y.place → keyed_cmp listed x y ≡ Less
  less_place x y e lt = ap (λ o. ordering_then o (nat_cmp x.place y.place)) e ∙ sym (nat_cmp_is x.place y.place Less lt)

  -- what stands between two that tie ties with the later
  squeezed : (x z y : KeyedPlace) → entry_cmp listed x y ≡ Equal → keyed_cmp listed x z ≡ Less → keyed_cmp listed z y ≡ Less → entry_cmp listed z y ≡ Equal
  squeezed x z y e first second =
      between (entry_cmp listed z y) (not_greater (entry_cmp listed z y) (nat_cmp z.place y.place) second)
      (ap is_gt (sym (entry_total.antisymm y z) ∙ sym (entry_total.congr x y z e)) ∙ not_greater (entry_cmp listed x z) (nat_cmp x.place z.place) first)

  module _ (places : List KeyedPlace) (are : AreItsPlaces listed places) (sorted : IsSorted (keyed_cmp listed) places) where
    abbrev at : ℕ → KeyedPlace
    at = at_place places

    pub among : (n : ℕ) → n < length places → Contains places (at n)
    among n lt = (n, lt, get_or_default places n (at n) first_place lt)

    adjacent : (k : ℕ) → k + 1 < length places → keyed_cmp listed (at k) (at (k + 1)) ≡ Less
    adjacent k lt =
        let x = at k in
        let y = at (k + 1) in
        let apart : x.place == y.place ≡ false = apart_from_distinct (λ (x y : KeyedPlace). x.place == y.place) places k (k + 1) first_place are.once (omega arith) lt in
        let same : nat_cmp x.place y.place ≡ Equal → x.place ≡ y.place = λ e. ranked x.place y.place Equal (sym e) in
        ⊎_elim (λ less. less)
        (λ equal. absurd (true≢false (sym (eq-eqb x.place y.place (same (both_equal (entry_cmp listed x y) (nat_cmp x.place y.place) equal).1)) ∙ apart)))
        (rises_or_ties (keyed_cmp listed x y) (ap is_lt (sym (keyed_total.antisymm y x)) ∙ sorted k first_place (omega arith) lt))

    less : (i j : ℕ) → i < j → j < length places → keyed_cmp listed (at i) (at j) ≡ Less
    less i j lt within = Less-from_sorted (keyed_cmp listed) places i j first_place (sorted_from_all_adjacent keyed_total places first_place adjacent) lt within

    neighbours : (next : ℕ) → 1 ≤ next → next < length places → AreEqualAt listed (at (next - 1)) (at next) → entry_cmp listed (at (next - 1)) (at next) ≡ Equal
    neighbours next after lt w = tie (at (next - 1)) (at next) (are.alike (at (next - 1)) (at next) (among (next - 1) (omega arith)) (among next lt) w) w

    -- what equals its neighbour repeats an earlier one
    pub repeats : (bound number : ℕ) → RepeatsNeighbour listed places bound number → RepeatsEarlier listed number
    repeats bound number w =
        let x = at (w.0 - 1) in
        let y = at w.0 in
        let lt : x.place < y.place = place_less x y (neighbours w.0 w.1 w.3 w.4) (less (w.0 - 1) w.0 (let after : 1 ≤ w.0 = w.1 in omega arith) w.3) in
        subst (RepeatsEarlier listed) w.5 (x.place, w.4.0, lt, w.4.1, w.4.2)

    -- where a place of the list stands among the sorted ones
    found : (number : ℕ) → number < length listed → (i : ℕ) × (i < length places) × ((at i).place ≡ number)
    found number lt =
        let w = are.all number lt in
        (w.1.0, w.1.1, ap (λ (x : KeyedPlace). x.place) (get_or_default places w.1.0 first_place w.0 w.1.1 ∙ w.1.2) ∙ w.2)

    -- a later one that is equal stands later
    in_order : (i j : ℕ) → i < length places → entry_cmp listed (at i) (at j) ≡ Equal → (at i).place < (at j).place → i < j
    in_order i j within e lt = ⊎_elim (λ before. before) (λ le. absurd (at_or_after (cases_eq j i) le)) (cases_lt i j)
      where
        turned : keyed_cmp listed (at i) (at j) ≡ Less → keyed_cmp listed (at j) (at i) ≡ Less → ⊥
        turned p q =
            let back : keyed_cmp listed (at i) (at j) ≡ Greater = keyed_total.antisymm (at i) (at j) ∙ ap ordering_reverse q in
            cc

        at_or_after : (j ≡ i) ⊎ (j ≢ i) → j ≤ i → ⊥
        at_or_after (inl same) le = let p : (at j).place ≡ (at i).place = ap (λ k. (at k).place) same in omega arith
        at_or_after (inr other) le = turned (less_place (at i) (at j) e lt) (less j i (omega arith) within)

    -- what repeats an earlier one equals its neighbour
    pub repeated : (bound number : ℕ) → length places ≤ bound → RepeatsEarlier listed number → RepeatsNeighbour listed places bound number
    repeated bound number enough w =
        let i = found w.0 (slice_get_within listed w.0 w.1 w.3) in
        let j = found number (slice_get_within listed number w.1 w.4) in
        let x = at i.0 in
        let y = at j.0 in
        let same : AreEqualAt listed x y = (w.1, subst (λ k. slice_get listed k ≡ Some w.1) (sym i.2) w.3, subst (λ k. slice_get listed k ≡ Some w.1) (sym j.2) w.4) in
        let e = tie x y (are.alike x y (among i.0 i.1) (among j.0 j.1) same) same in
        let lt : x.place < y.place = subst (λ k. k < y.place) (sym i.2) (subst (λ k. w.0 < k) (sym j.2) w.2) in
        let before : i.0 < j.0 = in_order i.0 j.0 i.1 e lt in
        let z = at (j.0 - 1) in
        let last : j.0 - 1 < length places = let within : j.0 < length places = j.1 in omega arith in
        let next : entry_cmp listed z y ≡ Equal = by_place i.0 j.0 e before j.1 (cases_eq i.0 (j.0 - 1)) in
        (j.0, omega arith, omega (arith, j.1), j.1, tied z y (are.within z (among (j.0 - 1) last)) next, j.2)
      where
        by_place : (i j : ℕ) → entry_cmp listed (at i) (at j) ≡ Equal → i < j → j < length places → (i ≡ j - 1) ⊎ (i ≢ j - 1) → entry_cmp listed (at (j - 1)) (at j) ≡ Equal
        by_place i j e lt within (inl same) = subst (λ k. entry_cmp listed (at k) (at j) ≡ Equal) same e
        by_place i j e lt within (inr other) = squeezed (at i) (at (j - 1)) (at j) e (less i (j - 1) (omega arith) (omega arith)) (less (j - 1) j (omega arith) within)

    -- none repeats its neighbour
    none_repeated : (bound : ℕ) → length places ≤ bound → ((number : ℕ) → RepeatsNeighbour listed places bound number → ⊥) → AreDistinct listed
    none_repeated bound enough none place other a here there =
        ⊎_elim (λ lt. absurd (none other (repeated bound other enough (place, a, lt, here, there))))
        (λ le. ⊎_elim (λ lt. absurd (none place (repeated bound place enough (other, a, lt, there, here)))) (λ ge. omega arith) (cases_lt other place)) (cases_lt place other)

    -- at the end
    pub least_is : (bound : ℕ) (least : Option ℕ) → length places ≤ bound → LeastNeighbour listed places bound least → MatchOption least (AreDistinct listed) (IsLeast (RepeatsEarlier listed))
    least_is bound None enough none = none_repeated bound enough none
    least_is bound (Some number) enough is = record { holds = repeats bound number is.holds; least = λ m earlier. is.least m (repeated bound m enough earlier) }

-- ---- the loop over the sorted places

module _ (listed : List (List Placement)) (places : List KeyedPlace) (next : ℕ) where
  later : (number : ℕ) → RepeatsNeighbour listed places next number → RepeatsNeighbour listed places (next + 1) number
  later number w = (w.0, w.1, let lt : w.0 < next = w.2 in omega arith, w.3, w.4, w.5)

  -- one place more
  cases_more : (number : ℕ) → RepeatsNeighbour listed places (next + 1) number → RepeatsNeighbour listed places next number ⊎ (AreEqualAt listed (at_place places (next - 1)) (at_place places next) × ((at_place places next).place ≡ number))
  cases_more number w = by_place (cases_eq w.0 next)
    where
      by_place : (w.0 ≡ next) ⊎ (w.0 ≢ next) → RepeatsNeighbour listed places next number ⊎ (AreEqualAt listed (at_place places (next - 1)) (at_place places next) × ((at_place places next).place ≡ number))
      by_place (inl same) = inr (subst (λ k. AreEqualAt listed (at_place places (k - 1)) (at_place places k)) same w.4, subst (λ k. (at_place places k).place ≡ number) same w.5)
      by_place (inr other) = inl (w.0, w.1, let lt : w.0 < next + 1 = w.2 in omega arith, w.3, w.4, w.5)

  -- where it does not equal its neighbour
  pub least_kept : (least : Option ℕ) → (AreEqualAt listed (at_place places (next - 1)) (at_place places next) → ⊥) → LeastNeighbour listed places next least → LeastNeighbour listed places (next + 1) least
  least_kept None other none = λ number w. ⊎_elim (λ before. none number before) (λ here. other here.0) (cases_more number w)
  least_kept (Some m) other is = record {
    holds = later m is.holds;
    least = λ number w. ⊎_elim (λ before. is.least number before) (λ here. absurd (other here.0)) (cases_more number w);
  }

  -- and where it does
  pub least_more : (least : Option ℕ) (lesser : ℕ) → 1 ≤ next → next < length places → AreEqualAt listed (at_place places (next - 1)) (at_place places next) → MatchOption least (lesser ≡ (at_place places next).place) (λ m. lesser ≡ min m (at_place places next).place)
      → LeastNeighbour listed places next least → LeastNeighbour listed places (next + 1) (Some lesser)
  least_more None lesser after within same is none = record {
    holds = (next, after, omega arith, within, same, sym is);
    least = λ number w. ⊎_elim (λ before. absurd (none number before)) (λ here. let e : (at_place places next).place ≡ number = here.1 in omega arith) (cases_more number w);
  }
  least_more (Some m) lesser after within same is old = record {
    holds = ⊎_elim (λ lt. later_is (later m old.holds) (omega arith)) (λ le. (next, after, omega arith, within, same, omega arith)) (cases_lt m (at_place places next).place);
    least = λ number w. ⊎_elim (λ before. let le = old.least number before in omega arith) (λ here. let e : (at_place places next).place ≡ number = here.1 in omega arith) (cases_more number w);
  }
    where
      later_is : RepeatsNeighbour listed places (next + 1) m → m ≡ lesser → RepeatsNeighbour listed places (next + 1) lesser
      later_is w e = subst (RepeatsNeighbour listed places (next + 1)) e w

-- before the first
pub least_none : (listed : List (List Placement)) (places : List KeyedPlace) → LeastNeighbour listed places 1 None
least_none listed places number w = let after : 1 ≤ w.0 = w.1 in let lt : w.0 < 1 = w.2 in omega arith

-- ---- the places before they are sorted

-- The places before this one, in order, with the keys of what stands there.
pub record AreKeyed (listed : List (List Placement)) (number : ℕ) (places : List KeyedPlace) : Type 0 where
  pub long : length places ≡ number
  pub each : (k : ℕ) (x : KeyedPlace) → slice_get places k ≡ Some x → (x.place ≡ k) × (a : List Placement) × (slice_get listed k ≡ Some a) × (x.key ≡ key_of a)

pub none_keyed : (listed : List (List Placement)) → AreKeyed listed 0 []
none_keyed listed = record { long = refl; each = λ k x e. absurd (none≢some e) }

pub one_more_keyed : (listed : List (List Placement)) (number : ℕ) (places : List KeyedPlace) (a : List Placement) (key : ℕ) → AreKeyed listed number places → slice_get listed number ≡ Some a → key ≡ key_of a
    → AreKeyed listed (number + 1) (places ++ record { key = key; place = number } ∷ [])
one_more_keyed listed number places a key are at is = record {
  long = omega (arith, are.long, length-append places (new ∷ []));
  each = λ k x e. ⊎_elim (are.each k x) (λ w. last k x w) (pushed_place places new k x e);
}
  where
    new : KeyedPlace
    new = record { key = key; place = number }

    last : (k : ℕ) (x : KeyedPlace) → (k ≡ length places) × (new ≡ x) → (x.place ≡ k) × (b : List Placement) × (slice_get listed k ≡ Some b) × (x.key ≡ key_of b)
    last k x w =
        let place : x.place ≡ number = ap (λ (y : KeyedPlace). y.place) (sym w.1) in
        let here : k ≡ number = w.0 ∙ are.long in
        (place ∙ sym here, a, subst (λ n. slice_get listed n ≡ Some a) (sym here) at, ap (λ (y : KeyedPlace). y.key) (sym w.1) ∙ is)

pub all_keyed : (listed : List (List Placement)) (number : ℕ) (places : List KeyedPlace) → number ≡ length listed → AreKeyed listed number places → AreItsPlaces listed places
all_keyed listed number places all are = record {
  all = λ n lt. let w = member_at places n (omega (arith, are.long, all, lt)) in (w.0, contains_at places n w.0 w.1, (are.each n w.0 w.1).0);
  within = λ x among. let w = place_of places x among in let e = (are.each w.0 x w.1).0 in omega (arith, e, slice_get_within places w.0 x w.1, are.long, all);
  once = IsDistinct-from_apart (λ (x y : KeyedPlace). x.place == y.place) places apart;
  alike = λ x y first second same.
      let i = place_of places x first in
      let j = place_of places y second in
      let a = are.each i.0 x i.1 in
      let b = are.each j.0 y j.1 in
      let here : a.1 ≡ same.0 = inside (sym a.2 ∙ ap (slice_get listed) (sym a.0) ∙ same.1) in
      let there : b.1 ≡ same.0 = inside (sym b.2 ∙ ap (slice_get listed) (sym b.0) ∙ same.2) in
      a.3 ∙ ap key_of (here ∙ sym there) ∙ sym b.3;
}
  where
    at_its_place : (k : ℕ) (d : KeyedPlace) → k < length places → (get_or places k d).place ≡ k
    at_its_place k d lt =
        let w = member_at places k lt in
        ap (λ (x : KeyedPlace). x.place) (get_or_from_slice_get places k w.0 d w.1) ∙ (are.each k w.0 w.1).0

    different : (b : Bool) (i j : ℕ) → (i == j) ≡ b → i < j → b ≡ false
    different true i j e lt = let same : i ≡ j = eqb-true i j e in absurd (omega arith)
    different false i j e lt = refl

    apart : (i j : ℕ) (d : KeyedPlace) → i < j → j < length places → (get_or places i d).place == (get_or places j d).place ≡ false
    apart i j d lt within =
        ap (λ k. k == (get_or places j d).place) (at_its_place i d (omega (arith, lt, within))) ∙ ap (λ k. i == k) (at_its_place j d within) ∙ different (i == j) i j refl lt

-- the same places in another order
pub permuted : (listed : List (List Placement)) (old new : List KeyedPlace) → IsPermutation old new → AreItsPlaces listed old → AreItsPlaces listed new
permuted listed old new moved are = record {
  all = λ n lt. let w = are.all n lt in (w.0, Contains-permutation old new w.0 moved w.1, w.2);
  within = λ x among. are.within x (back x among);
  once = IsDistinct-IsPermutation (λ (x y : KeyedPlace). x.place == y.place) (λ x y. nat_eq_equiv.symm x.place y.place) old new moved are.once;
  alike = λ x y first second. are.alike x y (back x first) (back y second);
}
  where
    back : (x : KeyedPlace) → Contains new x → Contains old x
    back x = Contains-permutation new old x (IsPermutation-sym old new moved)

-- ---- a list that rises

pub rising_distinct : (listed : List (List Placement)) → ((k : ℕ) (d : List Placement) → k + 1 < length listed → slice_cmp placement_cmp (get_or listed k d) (get_or listed (k + 1) d) ≡ Less) → AreDistinct listed
rising_distinct listed rises place other a here there =
    ⊎_elim (λ lt. absurd (apart place other here there lt)) (λ le. ⊎_elim (λ lt. absurd (apart other place there here lt)) (λ ge. omega arith) (cases_lt other place)) (cases_lt place other)
  where
    sorted : IsStrictlySortedBy (slice_cmp placement_cmp) listed
    sorted = sorted_from_all_adjacent (lists_total placement_total) listed [] (λ k lt. rises k [] lt)

    apart : (i j : ℕ) → slice_get listed i ≡ Some a → slice_get listed j ≡ Some a → i < j → ⊥
    apart i j first second lt =
        let less : slice_cmp placement_cmp (get_or listed i []) (get_or listed j []) ≡ Less = Less-from_sorted (slice_cmp placement_cmp) listed i j [] sorted lt (slice_get_within listed j a second) in
        let same : slice_cmp placement_cmp (get_or listed i []) (get_or listed j []) ≡ Equal =
        ap (λ b. slice_cmp placement_cmp b (get_or listed j [])) (get_or_from_slice_get listed i a [] first) ∙ ap (slice_cmp placement_cmp a) (get_or_from_slice_get listed j a [] second) ∙ tied_itself (lists_total placement_total) a in
        cc

-- what `<` says of two entries
abbrev pub placement_partial_cmp : Placement → Placement → Option Ordering
placement_partial_cmp x y = partial_ordering_then (Some (nat_cmp x.tile y.tile)) (Some (nat_cmp x.turn y.turn))

abbrev pub is_before : List Placement → List Placement → Bool
is_before a b = is_some_and is_lt (slice_partial_cmp placement_partial_cmp a b)

less_before : (a b : List Placement) → true ≡ is_before a b → slice_cmp placement_cmp a b ≡ Less
less_before a b e = only_less (slice_cmp placement_cmp a b) (e ∙ ap (is_some_and is_lt) (lists_agrees (λ x y. Some-then (nat_cmp x.tile y.tile) (nat_cmp x.turn y.turn)) a b))
  where
    only_less : (o : Ordering) → true ≡ is_lt o → o ≡ Less
    only_less Less e = refl
    only_less Equal e = absurd (true≢false e)
    only_less Greater e = absurd (true≢false e)

pub rises_told : (listed : List (List Placement)) (r : Bool) → IsAllAdjacentAnswer (λ x y b. b ≡ is_before x y) listed r → IsTrue r → AreDistinct listed
rises_told listed true all so = rising_distinct listed (λ k d lt. less_before (get_or listed k d) (get_or listed (k + 1) d) (all k d lt))
rises_told listed false all so = absurd (true≢false (sym so))
