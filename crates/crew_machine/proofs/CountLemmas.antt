-- Totals over lists that change at one place.
use Rattle.std.proofs.Common.{◌≡◌, ℕ, zero, suc, ◌+◌, ◌<◌, ◌≤◌, Bool, true, cond, eqb, ◌==◌, List, [], ◌∷◌, ◌++◌, length, set, slice_index_or, All, sym, refl, ap, arith}
use mathlib.Core.Option.{some, some-injective, some-ne-none}
use lib.ListN.{get_elem?}
use Rattle.std.specs.List.{AllByRecursion}
use Rattle.std.proofs.lemmas.List.Elements.{All-from_recursion}
use Rattle.std.proofs.lemmas.Bool.Decides.{nat_tests}
use Rattle.crew_machine.specs.Counts.{total, times, once_below}

module _ {A : Type 0} where
  pub total-set : (f : A → ℕ) (xs : List A) (i : ℕ) (v w : A) → get_elem? xs i ≡ some v → total f (set xs i w) + f v ≡ total f xs + f w
  total-set f [] i v w e = absurd (some-ne-none v (sym e))
  total-set f (x ∷ xs) zero v w e = let is : f x ≡ f v = ap f (some-injective x v e) in omega arith
  total-set f (x ∷ xs) (suc i) v w e = let r = total-set f xs i v w e in omega arith

  -- the same, of an element by its place
  pub total_set_at : (f : A → ℕ) (xs : List A) (i : ℕ) (d w : A) → i < length xs → total f (set xs i w) + f (slice_index_or xs i d) ≡ total f xs + f w
  total_set_at f [] i d w h = absurd (omega arith)
  total_set_at f (x ∷ xs) zero d w h = omega arith
  total_set_at f (x ∷ xs) (suc i) d w h = let r = total_set_at f xs i d w (omega arith) in omega arith

  pub total-append : (f : A → ℕ) (xs ys : List A) → total f (xs ++ ys) ≡ total f xs + total f ys
  total-append f [] ys = omega arith
  total-append f (x ∷ xs) ys = let r = total-append f xs ys in omega arith

  pub total-part : (f : A → ℕ) (xs : List A) (i : ℕ) (v : A) → get_elem? xs i ≡ some v → f v ≤ total f xs
  total-part f [] i v e = absurd (some-ne-none v (sym e))
  total-part f (x ∷ xs) zero v e = let is : f x ≡ f v = ap f (some-injective x v e) in omega arith
  total-part f (x ∷ xs) (suc i) v e = let r = total-part f xs i v e in omega arith

  pub total-le : (f g : A → ℕ) (xs : List A) → ((i : ℕ) (v : A) → get_elem? xs i ≡ some v → f v ≤ g v) → total f xs ≤ total g xs
  total-le f g [] h = omega arith
  total-le f g (x ∷ xs) h = let r = total-le f g xs (λ i v e. h (suc i) v e) in let a = h 0 x refl in omega arith

  pub total-none : (f g : A → ℕ) (xs : List A) → ((j : ℕ) (u : A) → get_elem? xs j ≡ some u → g u ≡ 0 → f u ≡ 0) → total g xs ≡ 0 → total f xs ≡ 0
  total-none f g [] z h = refl
  total-none f g (x ∷ xs) z h = let a : g x ≡ 0 = omega arith in let b = z 0 x refl a in let r = total-none f g xs (λ j u at n. z (suc j) u at n) (omega arith) in omega arith

  -- where g of one element is all of g, and f is 0 wherever g is, f of that element is all of f
  pub total-alone : (f g : A → ℕ) (xs : List A) (i : ℕ) (v : A) → get_elem? xs i ≡ some v → ((j : ℕ) (u : A) → get_elem? xs j ≡ some u → g u ≡ 0 → f u ≡ 0) → total g xs ≡ g v → total f xs ≡ f v
  total-alone f g [] i v e z h = absurd (some-ne-none v (sym e))
  total-alone f g (x ∷ xs) zero v e z h =
      let a : g x ≡ g v = ap g (some-injective x v e) in let b : f x ≡ f v = ap f (some-injective x v e) in
      let none = total-none f g xs (λ j u at n. z (suc j) u at n) (omega arith) in omega arith
  total-alone f g (x ∷ xs) (suc i) v e z h =
      let part = total-part g xs i v e in let a : g x ≡ 0 = omega arith in let b = z 0 x refl a in
      let r = total-alone f g xs i v e (λ j u at n. z (suc j) u at n) (omega arith) in omega arith

pub times-snoc : (x : ℕ) (xs : List ℕ) (y : ℕ) → times x (xs ++ y ∷ []) ≡ times x xs + cond (eqb y x) 1 0
times-snoc x xs y = let r = total-append (λ (z : ℕ). cond (eqb z x) 1 0) xs (y ∷ []) in omega arith

-- the next number below is one more
pub once_below-next : (x n : ℕ) → once_below x (n + 1) ≡ once_below x n + cond (eqb n x) 1 0
once_below-next x n = grind (arith, nat_tests)

pub once_below-above : (x n : ℕ) → n ≤ x → once_below x n ≡ 0
once_below-above x n h = grind (arith, nat_tests)

elim_lt : (y n : ℕ) → (n ≤ y → ⊥) → y < n
elim_lt y n h = grind (arith, nat_tests)

pub same_one : (y : ℕ) → cond {A = ℕ} (y == y) 1 0 ≡ 1
same_one y = ap (λ (b : Bool). cond b 1 0) (let e : (y == y) ≡ true = grind (arith, nat_tests) in e)

below_recursion : (xs : List ℕ) (n : ℕ) → ((x : ℕ) → n ≤ x → times x xs ≡ 0) → AllByRecursion (λ x. x < n) xs
below_recursion [] n h = tt
below_recursion (y ∷ ys) n h = (
  elim_lt y n (λ above. let z : cond (y == y) 1 0 + times y ys ≡ 0 = h y above in let one = same_one y in absurd (omega arith)),
  below_recursion ys n (λ x above. let z : cond (y == x) 1 0 + times x ys ≡ 0 = h x above in omega arith),
)

-- a list in which nothing from n on stands is all below n
pub all_below : (xs : List ℕ) (n : ℕ) → ((x : ℕ) → n ≤ x → times x xs ≡ 0) → All (λ x. x < n) xs
all_below xs n h = All-from_recursion (λ (x : ℕ). x < n) xs (below_recursion xs n h)

-- one more tally, of what was entered meanwhile
pub tallies_more : {A : Type 0} (f : A → ℕ) (ts ts' : List A) (t : A) (a b c : ℕ) → ts' ≡ ts ++ t ∷ [] → total f ts + a ≡ b → f t + b ≡ c → total f ts' + a ≡ c
tallies_more f ts ts' t a b c is h more = let e = ap (total f) is in let s = total-append f ts (t ∷ []) in omega arith
