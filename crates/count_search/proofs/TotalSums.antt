-- Sums of weights, and maps between numbers that carry one into another.
use Rattle.std.proofs.Common.{◌≡◌, ◌⊎◌, ◌<◌, ◌≤◌, ◌+◌, ◌==◌, ℕ, zero, suc, Bool, true, false, List, [], ◌∷◌, cond, length, get_or, sum_by, count_by, refl, sym, ap, subst, ◌∙◌, arith, inl, inr, ⊎_elim, eq-eqb}
use Rattle.std.proofs.lemmas.Bool.{ne_eqb, cond-true, cond-false}
use Rattle.std.proofs.lemmas.Bool.Decides.{eqb_tells}
use Rattle.std.proofs.lemmas.List.Sums.{sum_by-cons}

-- the sum of the weights of the first so many numbers
abbrev pub total : (ℕ → ℕ) → (count : ℕ) → ℕ
total u zero = 0
total u (suc count) = total u count + u count

-- equal weights have equal sums
pub total_same : (u v : ℕ → ℕ) (count : ℕ) → ((n : ℕ) → n < count → u n ≡ v n) → total u count ≡ total v count
total_same u v zero same = refl
total_same u v (suc count) same =
    let rest = total_same u v count (λ n lt. same n (omega arith)) in
    let last = same count (omega arith) in
    omega (arith, rest, last)

-- greater weights have greater sums
pub total_le : (u v : ℕ → ℕ) (count : ℕ) → ((n : ℕ) → n < count → u n ≤ v n) → total u count ≤ total v count
total_le u v zero le = omega arith
total_le u v (suc count) le =
    let rest = total_le u v count (λ n lt. le n (omega arith)) in
    let last = le count (omega arith) in
    omega (arith, rest, last)

-- sums of weights that are sums
pub total_both : (u v w : ℕ → ℕ) (count : ℕ) → ((n : ℕ) → u n ≡ v n + w n) → total u count ≡ total v count + total w count
total_both u v w zero both = refl
total_both u v w (suc count) both =
    let rest = total_both u v w count both in
    let last = both count in
    omega (arith, rest, last)

-- the sum over all columns is that over all rows
pub total_swap : (u : ℕ → ℕ → ℕ) (rows columns : ℕ) → total (λ n. total (u n) columns) rows ≡ total (λ m. total (λ n. u n m) rows) columns
total_swap u zero columns = sym (none columns)
  where
    none : (m : ℕ) → total (λ m'. 0) m ≡ 0
    none zero = refl
    none (suc m) = omega (arith, none m)
total_swap u (suc rows) columns =
    let rest = total_swap u rows columns in
    let both = total_both (λ m. total (λ n. u n m) (suc rows)) (λ m. total (λ n. u n m) rows) (u rows) columns (λ m. refl) in
    omega (arith, rest, both)

-- the weights without that of one number
abbrev without : (ℕ → ℕ) → (one : ℕ) → ℕ → ℕ
without v one n = cond (n == one) 0 (v n)

without_other : (v : ℕ → ℕ) (one n : ℕ) → (n ≡ one → ⊥) → without v one n ≡ v n
without_other v one n other = cond-false (n == one) 0 (v n) (ne_eqb n one other)

without_it : (v : ℕ → ℕ) (one : ℕ) → without v one one ≡ 0
without_it v one = cond-true (one == one) 0 (v one) (eq-eqb one one refl)

-- one number more, where it is the one, and where it isn't
without_last : (v : ℕ → ℕ) (one count : ℕ) → one ≡ count → total v (suc count) ≡ total (without v one) (suc count) + v one
without_last v one count is =
    let rest = total_same v (without v one) count (λ n below. sym (without_other v one n (λ same. omega (arith, same, is, below)))) in
    let none : without v one count ≡ 0 = ap (without v one) (sym is) ∙ without_it v one in
    let here : v one ≡ v count = ap v is in
    omega (arith, rest, none, here)

without_next : (v : ℕ → ℕ) (one count : ℕ) → (one ≡ count → ⊥) → total v count ≡ total (without v one) count + v one → total v (suc count) ≡ total (without v one) (suc count) + v one
without_next v one count other rest =
    let last = without_other v one count (λ is. other (sym is)) in
    omega (arith, rest, last)

-- the sum of all is that of the others and the one
total_without : (v : ℕ → ℕ) (one count : ℕ) → one < count → total v count ≡ total (without v one) count + v one
total_without v one zero lt = absurd (omega arith)
total_without v one (suc count) lt =
    ⊎_elim
    (λ is. without_last v one count is.1)
    (λ other. without_next v one count other.1 (total_without v one count (below other.1)))
    (eqb_tells one count)
  where
    below : (one ≡ count → ⊥) → one < count
    below other = grind arith

-- Where each number that weighs something goes to another that weighs no less, no two to one, the sum is no greater.
abbrev pub Goes : (u v : ℕ → ℕ) (R : ℕ → ℕ → Type 0) (m i : ℕ) → Type 0
Goes u v R m i = (j : ℕ) × (j < m) × R i j × (u i ≤ v j)

-- what goes elsewhere than the last goes there without it too
moved : (u v : ℕ → ℕ) (R : ℕ → ℕ → Type 0) (m n i place : ℕ) → ((i i' j : ℕ) → R i j → R i' j → i ≡ i') → R n place → i < n → Goes u v R m i → Goes u (without v place) R m i
moved u v R m n i place one at lt there =
    let other : (there.0 ≡ place → ⊥) = λ is. (let same : i ≡ n = one i n place (subst (R i) is there.2) at in omega (arith, same, lt)) in
    let kept = without_other v place there.0 other in
    (there.0, there.1, there.2, omega (arith, kept, there.3))

pub carried : (u v : ℕ → ℕ) (n m : ℕ) (R : ℕ → ℕ → Type 0) → ((i : ℕ) → i < n → 0 < u i → Goes u v R m i) → ((i i' j : ℕ) → R i j → R i' j → i ≡ i') → total u n ≤ total v m
carried u v zero m R goes one = omega arith
carried u v (suc n) m R goes one =
    ⊎_elim
    (λ none. omega (arith, none, carried u v n m R (λ i lt some. goes i (omega arith) some) one))
    (λ some.
    let to = goes n (omega arith) some in
    omega (
      arith,
      carried u (without v to.0) n m R (λ i lt some'. moved u v R m n i to.0 one to.2 lt (goes i (omega arith) some')) one,
      total_without v to.0 m to.1,
      to.3,
    ))
    (none_or_some (u n))
  where
    none_or_some : (w : ℕ) → (w ≡ 0) ⊎ (0 < w)
    none_or_some zero = inl refl
    none_or_some (suc w) = inr (omega arith)

-- the sum from the first number on
total_front : (u : ℕ → ℕ) (count : ℕ) → total u (suc count) ≡ u 0 + total (λ n. u (suc n)) count
total_front u zero = omega arith
total_front u (suc count) = omega (arith, total_front u count)

-- what is summed over a list is summed over its places
total_list : {X : Type 0} (f : X → ℕ) (xs : List X) (d : X) → total (λ n. f (get_or xs n d)) (length xs) ≡ sum_by f xs
total_list f [] d = refl
total_list f (x ∷ xs) d =
    let front = total_front (λ n. f (get_or (x ∷ xs) n d)) (length xs) in
    let rest = total_list f xs d in
    let more = sum_by-cons f x xs in
    omega (arith, front, rest, more)

-- 1 for what is so, and 0 for another
abbrev pub one_if : Bool → ℕ
one_if b = cond b 1 0

pub one_if_few : (b : Bool) → one_if b ≤ 1
one_if_few true = omega arith
one_if_few false = omega arith

pub one_if_some : (b : Bool) → 0 < one_if b → b ≡ true
one_if_some true some = refl
one_if_some false some = absurd (omega (arith, some))

-- what is counted in a list is counted at its places
pub total_count : {X : Type 0} (f : X → Bool) (xs : List X) (d : X) → total (λ n. one_if (f (get_or xs n d))) (length xs) ≡ count_by f xs
total_count f xs d = total_list (λ x. one_if (f x)) xs d

-- of the numbers below a bound just one is this one
pub total_one : (g count : ℕ) → g < count → total (λ n. one_if (g == n)) count ≡ 1
total_one g zero lt = absurd (omega arith)
total_one g (suc count) lt =
    ⊎_elim
    (λ is.
    let none = none_before g count (omega (arith, is.1)) in
    let last = cond-true {A = ℕ} (g == count) 1 0 is.0 in
    omega (arith, none, last))
    (λ other.
    let rest = total_one g count (below other.1) in
    let last = cond-false {A = ℕ} (g == count) 1 0 other.0 in
    omega (arith, rest, last))
    (eqb_tells g count)
  where
    below : (g ≡ count → ⊥) → g < count
    below other = grind arith

    none_before : (g m : ℕ) → m ≤ g → total (λ n. one_if (g == n)) m ≡ 0
    none_before g zero le = refl
    none_before g (suc m) le =
        let rest = none_before g m (omega (arith, le)) in
        let last = cond-false {A = ℕ} (g == m) 1 0 (ne_eqb g m (λ same. omega (arith, same, le))) in
        omega (arith, rest, last)
