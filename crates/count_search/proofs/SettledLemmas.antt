-- What is so or isn't, as far as finitely many things tell.
use Rattle.std.proofs.Common.{◌≡◌, ◌⊎◌, ◌<◌, ◌∷◌, [], ℕ, zero, suc, List, Option, None, Some, Contains, length, slice_get, get_or, arith, refl, sym, subst, inl, inr, ⊎_elim}
use Rattle.std.proofs.lemmas.Bool.Decides.{eqb_tells}
use Rattle.std.proofs.lemmas.List.Elements.{Contains-append_right}
use Rattle.match_limits.proofs.ListLemmas.{none≢some, contains_none, contains_cons}
use Rattle.match_limits.proofs.Listings.{lt_or_le}
use Rattle.match_puzzle.proofs.Prefixes.{inside}

-- It is so or it isn't.
abbrev pub IsSettled : Type 0 → Type 0
IsSettled P = P ⊎ (P → ⊥)

pub equal_or_not : (m n : ℕ) → IsSettled (m ≡ n)
equal_or_not m n = ⊎_elim (λ same. inl same.1) (λ ne. inr ne.1) (eqb_tells m n)

pub below_or_not : (m n : ℕ) → IsSettled (m < n)
below_or_not m n = ⊎_elim (λ lt. inl lt) (λ le. inr (λ lt. omega (arith, le, lt))) (lt_or_le m n)

pub both_or_not : {P Q : Type 0} → IsSettled P → IsSettled Q → IsSettled (P × Q)
both_or_not p q = ⊎_elim (λ is. ⊎_elim (λ is'. inl (is, is')) (λ no. inr (λ w. no w.1)) q) (λ no. inr (λ w. no w.0)) p

pub not_or_so : {P : Type 0} → IsSettled P → IsSettled (P → ⊥)
not_or_so p = ⊎_elim (λ is. inr (λ no. no is)) (λ no. inl no) p

pub either_or_not : {P Q : Type 0} → IsSettled P → IsSettled Q → IsSettled (P ⊎ Q)
either_or_not p q = ⊎_elim (λ is. inl (inl is)) (λ no. ⊎_elim (λ is. inl (inr is)) (λ no'. inr (⊎_elim no no')) q) p

pub settled_like : {P Q : Type 0} → (P → Q) → (Q → P) → IsSettled P → IsSettled Q
settled_like there back p = ⊎_elim (λ is. inl (there is)) (λ no. inr (λ q. no (back q))) p

-- a number below a bound
pub some_below : (P : ℕ → Type 0) → ((i : ℕ) → IsSettled (P i)) → (n : ℕ) → IsSettled ((i : ℕ) × (i < n) × P i)
some_below P each zero = inr (λ w. let lt = w.1 in omega (arith, lt))
some_below P each (suc n) =
    ⊎_elim
    (λ is. inl (n, omega arith, is))
    (λ no.
    ⊎_elim
    (λ w. let lt = w.1 in inl (w.0, omega (arith, lt), w.2))
    (λ none.
    inr (λ w.
    ⊎_elim (λ same. no (subst P same w.2)) (λ ne. let lt = w.1 in none (w.0, omega (arith, lt, ne), w.2)) (equal_or_not w.0 n)))
    (some_below P each n))
    (each n)

-- something in a list
pub some_in : {X : Type 0} (P : X → Type 0) (xs : List X) → ((x : X) → IsSettled (P x)) → IsSettled ((x : X) × Contains xs x × P x)
some_in P [] each = inr (λ w. contains_none w.0 w.1)
some_in P (y ∷ ys) each =
    ⊎_elim
    (λ is. inl (y, (0, omega arith, refl), is))
    (λ no.
    ⊎_elim
    (λ w. inl (w.0, Contains-append_right (y ∷ []) ys w.0 w.1, w.2))
    (λ none. inr (λ w. ⊎_elim (λ same. no (subst P (sym same) w.2)) (λ c. none (w.0, c, w.2)) (contains_cons y ys w.0 w.1)))
    (some_in P ys each))
    (each y)

pub is_in : (xs : List ℕ) (x : ℕ) → IsSettled (Contains xs x)
is_in xs x = some_below (λ i. get_or xs i x ≡ x) (λ i. equal_or_not (get_or xs i x) x) (length xs)

-- what stands at a place of a list
pub at_place : {X : Type 0} (P : X → Type 0) (xs : List X) (i : ℕ) → ((x : X) → IsSettled (P x)) → IsSettled ((x : X) × (slice_get xs i ≡ Some x) × P x)
at_place {X} P xs i each = of_read (slice_get xs i)
  where
    of_read : (o : Option X) → IsSettled ((x : X) × (o ≡ Some x) × P x)
    of_read None = inr (λ w. none≢some w.1)
    of_read (Some y) = ⊎_elim (λ is. inl (y, refl, is)) (λ no. inr (λ w. no (subst P (sym (inside w.1)) w.2))) (each y)
