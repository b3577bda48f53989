-- Numbers of arrangements, added up.
use Rattle.std.proofs.Common.{◌≡◌, ◌⊎◌, ◌<◌, ◌+◌, ◌↔◌, ◌++◌, ◌∷◌, [], ℕ, zero, suc, List, Some, Contains, length, length-append, slice_get, arith, refl, subst, inl, inr, ⊎_elim}
use Rattle.std.proofs.lemmas.List.Elements.{Contains-append_left, Contains-append_right, Contains-append_cases}
use Rattle.std.proofs.lemmas.Option.{none-some}
use Rattle.match_limits.proofs.ListLemmas.{contains_none, contains_at}
use Rattle.match_puzzle.specs.declared.placements.Placement.{Placement}
use Rattle.match_puzzle.specs.Arrangement.{AreDistinct}
use Rattle.match_puzzle.specs.Numbers.{AreSoMany, AreMoreThan}

-- ---- different things

-- what stands in two lists, one after the other, stands in the first or in the second
at_either : {X : Type 0} (xs ys : List X) (i : ℕ) (x : X) → slice_get (xs ++ ys) i ≡ Some x → (slice_get xs i ≡ Some x) ⊎ ((j : ℕ) × (i ≡ length xs + j) × (slice_get ys j ≡ Some x))
at_either [] ys i x at = inr (i, omega arith, at)
at_either (y ∷ xs) ys zero x at = inl at
at_either (y ∷ xs) ys (suc i) x at = ⊎_elim (λ l. inl l) (λ r. let e = r.1 in inr (r.0, omega (arith, e), r.2)) (at_either xs ys i x at)

-- different things, and others that are different
pub distinct_both : {X : Type 0} (xs ys : List X) → AreDistinct xs → AreDistinct ys → ((x : X) → Contains xs x → Contains ys x → ⊥) → AreDistinct (xs ++ ys)
distinct_both xs ys once once' apart i j x at at' =
    ⊎_elim
    (λ l. ⊎_elim (λ m. once i j x l m) (λ n. absurd (apart x (contains_at xs i x l) (contains_at ys n.0 x n.2))) (at_either xs ys j x at'))
    (λ r.
    ⊎_elim
    (λ m. absurd (apart x (contains_at xs j x m) (contains_at ys r.0 x r.2)))
    (λ n. let same = once' r.0 n.0 x r.2 n.2 in let e = r.1 in let e' = n.1 in omega (arith, same, e, e'))
    (at_either xs ys j x at'))
    (at_either xs ys i x at)

distinct_none : {X : Type 0} → AreDistinct {X = X} []
distinct_none i j x at at' = absurd (none-some x at)

distinct_one : {X : Type 0} (y : X) → AreDistinct (y ∷ [])
distinct_one y zero zero x at at' = refl
distinct_one y zero (suc j) x at at' = absurd (none-some x at')
distinct_one y (suc i) j x at at' = absurd (none-some x at)

-- ---- numbers

-- there is none
pub no_such : (Is : List Placement → Type 0) → ((a : List Placement) → Is a → ⊥) → AreSoMany Is 0
no_such Is none = record { all = []; just = λ a. (λ c. absurd (contains_none a c), λ is. absurd (none a is)); once = distinct_none; counted = refl }

-- there is just one
pub just_one : (Is : List Placement → Type 0) (a : List Placement) → Is a → ((b : List Placement) → Is b → a ≡ b) → AreSoMany Is 1
just_one Is a is one = record {
  all = a ∷ [];
  just = λ b. (λ c. subst Is (only b c) is, λ other. subst (Contains (a ∷ [])) (one b other) (0, omega arith, refl));
  once = distinct_one a;
  counted = refl;
}
  where
    only : (b : List Placement) → Contains (a ∷ []) b → a ≡ b
    only b (zero, lt, e) = e
    only b (suc i, lt, e) = absurd (omega (arith, lt))

-- what is like this is what is like that
pub same_number : (Is Are : List Placement → Type 0) (count : ℕ) → ((a : List Placement) → Is a ↔ Are a) → AreSoMany Is count → AreSoMany Are count
same_number Is Are count same so = record {
  all = so.all;
  just = λ a. (λ c. (same a).0 ((so.just a).0 c), λ is. (so.just a).1 ((same a).1 is));
  once = so.once;
  counted = so.counted;
}

module _ (One Other Either : List Placement → Type 0) (m n : ℕ) (so : AreSoMany One m) (apart : (a : List Placement) → One a → Other a → ⊥) where
  -- those of two kinds that have nothing in common
  pub both_kinds : AreSoMany Other n → ((a : List Placement) → Either a ↔ (One a ⊎ Other a)) → AreSoMany Either (m + n)
  both_kinds so' either = record {
    all = so.all ++ so'.all;
    just = λ a. (
      λ c. (either a).1 (⊎_elim (λ l. inl ((so.just a).0 l)) (λ r. inr ((so'.just a).0 r)) (Contains-append_cases so.all so'.all a c)),
      λ is. ⊎_elim (λ l. Contains-append_left so.all so'.all a ((so.just a).1 l)) (λ r. Contains-append_right so.all so'.all a ((so'.just a).1 r)) ((either a).0 is),
    );
    once = distinct_both so.all so'.all so.once so'.once (λ a c d. apart a ((so.just a).0 c) ((so'.just a).0 d));
    counted = let long = length-append so.all so'.all in let e = so.counted in let e' = so'.counted in omega (arith, long, e, e');
  }

  -- so many of the one kind, and more of the other
  pub more_of_both : AreMoreThan n Other → ((a : List Placement) → One a → Either a) → ((a : List Placement) → Other a → Either a) → AreMoreThan (m + n) Either
  more_of_both more one other = record {
    found = so.all ++ more.found;
    once = distinct_both so.all more.found so.once more.once (λ a c d. apart a ((so.just a).0 c) (more.each a d));
    more = let long = length-append so.all more.found in let e = so.counted in let lt = more.more in omega (arith, long, e, lt);
    each = λ a c. ⊎_elim (λ l. one a ((so.just a).0 l)) (λ r. other a (more.each a r)) (Contains-append_cases so.all more.found a c);
  }

-- where there are so many, there are more than fewer
pub more_than_fewer : (Is : List Placement → Type 0) (m n : ℕ) → m < n → AreSoMany Is n → AreMoreThan m Is
more_than_fewer Is m n lt so = record { found = so.all; once = so.once; more = let e = so.counted in omega (arith, lt, e); each = λ a c. (so.just a).0 c }
