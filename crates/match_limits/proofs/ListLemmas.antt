-- Lists by their places.
use Rattle.std.proofs.Common.{◌≡◌, ◌⊎◌, ◌<◌, ◌+◌, ◌++◌, ℕ, zero, suc, List, [], ◌∷◌, Some, None, Contains, length, slice_get, get_or, take, map, refl, ap, sym, ◌∙◌, subst, arith, inl, inr, ⊎_elim}
use Rattle.std.specs.List.{AllByRecursion}
use Rattle.std.proofs.lemmas.List.{take_more}
use Rattle.std.proofs.lemmas.Bool.Decides.{eqb_tells}
use Rattle.std.proofs.lemmas.Option.{slice_get_within, get_or_from_slice_get}
use Rattle.match_limits.proofs.OptionLemmas.{inside}

pub none≢some : {X : Type 0} {x : X} → None ≡ Some x → ⊥
none≢some e = cc

pub contains_none : {X : Type 0} (x : X) → Contains [] x → ⊥
contains_none x c = omega (arith, c.1)

-- what is in a list with one more in front
pub contains_cons : {X : Type 0} (x : X) (xs : List X) (y : X) → Contains (x ∷ xs) y → (x ≡ y) ⊎ Contains xs y
contains_cons {X} x xs y c = by_place c.0 c.1 c.2
  where
    by_place : (k : ℕ) → k < length (x ∷ xs) → get_or (x ∷ xs) k y ≡ y → (x ≡ y) ⊎ Contains xs y
    by_place zero lt e = inl e
    by_place (suc k) lt e = inr (k, omega (arith, lt), e)

pub contains_at : {X : Type 0} (xs : List X) (i : ℕ) (x : X) → slice_get xs i ≡ Some x → Contains xs x
contains_at xs i x e = (i, slice_get_within xs i x e, get_or_from_slice_get xs i x x e)

-- lists of one length are equal where the one has all that the other has
pub same_by_place : {X : Type 0} (a b : List X) → length a ≡ length b → ((i : ℕ) (x : X) → slice_get b i ≡ Some x → slice_get a i ≡ Some x) → a ≡ b
same_by_place [] [] long same = refl
same_by_place [] (y ∷ b) long same = absurd (omega arith)
same_by_place (x ∷ a) [] long same = absurd (omega arith)
same_by_place (x ∷ a) (y ∷ b) long same = ap (λ z. z ∷ a) (inside (same 0 y refl)) ∙ ap (λ c. y ∷ c) (same_by_place a b (omega arith) (λ i z s. same (suc i) z s))

-- what holds of those before a place and of the one there
pub each_more : {X : Type 0} (P : X → Type 0) (xs : List X) (n : ℕ) (y : X) → ((k : ℕ) (x : X) → k < n → slice_get xs k ≡ Some x → P x) → slice_get xs n ≡ Some y → P y → (k : ℕ) (x : X) → k < n + 1 → slice_get xs k ≡ Some x → P x
each_more P xs n y before at holds k x lt here =
    ⊎_elim (λ e. subst P (inside (sym at ∙ ap (slice_get xs) (sym e.1) ∙ here)) holds) (λ ne. let other = ne.1 in before k x (omega (arith, lt)) here) (eqb_tells k n)

-- what stands in the front of what comes of a list
pub earlier_at : {A B : Type 0} (f : A → B) (xs : List A) (number n : ℕ) (y : B) → slice_get (take number (map f xs)) n ≡ Some y → (n < number) × (x : A) × (y ≡ f x) × (slice_get xs n ≡ Some x)
earlier_at f xs zero n y e = absurd (none≢some e)
earlier_at f [] (suc number) n y e = absurd (none≢some e)
earlier_at f (x ∷ xs) (suc number) zero y e = (omega arith, x, inside (sym e), refl)
earlier_at f (x ∷ xs) (suc number) (suc n) y e = let w = earlier_at f xs number n y e in (omega (arith, w.0), w.1, w.2, w.3)

-- what stands in a list with one more at its end
pub pushed_place : {X : Type 0} (xs : List X) (z : X) (i : ℕ) (x : X) → slice_get (xs ++ z ∷ []) i ≡ Some x → (slice_get xs i ≡ Some x) ⊎ ((i ≡ length xs) × (z ≡ x))
pushed_place [] z zero x e = inr (refl, inside e)
pushed_place [] z (suc i) x e = absurd (none≢some e)
pushed_place (y ∷ xs) z zero x e = inl e
pushed_place (y ∷ xs) z (suc i) x e = ⊎_elim (λ h. inl h) (λ w. inr (omega (arith, w.0), w.1)) (pushed_place xs z i x e)

pub pushed_at : {X : Type 0} (xs : List X) (z : X) (i : ℕ) (x : X) → slice_get (xs ++ z ∷ []) i ≡ Some x → (slice_get xs i ≡ Some x) ⊎ (z ≡ x)
pushed_at xs z i x e = ⊎_elim (λ h. inl h) (λ w. inr w.1) (pushed_place xs z i x e)

-- what stands in a list stands there in a longer one
pub kept_left : {X : Type 0} (xs ys : List X) (i : ℕ) (x : X) → slice_get xs i ≡ Some x → slice_get (xs ++ ys) i ≡ Some x
kept_left [] ys i x e = absurd (none≢some e)
kept_left (y ∷ xs) ys zero x e = e
kept_left (y ∷ xs) ys (suc i) x e = kept_left xs ys i x e

pub taken_more : {X : Type 0} (xs : List X) (n : ℕ) (x : X) → slice_get xs n ≡ Some x → take (n + 1) xs ≡ take n xs ++ x ∷ []
taken_more xs n x at = take_more xs n x (slice_get_within xs n x at) ∙ ap (λ y. take n xs ++ y ∷ []) (get_or_from_slice_get xs n x x at)

-- what stands in the list of what comes of each
pub mapped_at : {X Y : Type 0} (f : X → Y) (xs : List X) (n : ℕ) (y : Y) → slice_get (map f xs) n ≡ Some y → (x : X) × (slice_get xs n ≡ Some x) × (y ≡ f x)
mapped_at f [] n y e = absurd (none≢some e)
mapped_at f (x ∷ xs) zero y e = (x, refl, sym (inside e))
mapped_at f (x ∷ xs) (suc n) y e = mapped_at f xs n y e

-- what stands in the front of a list
pub taken_at : {X : Type 0} (xs : List X) (n i : ℕ) (x : X) → slice_get (take n xs) i ≡ Some x → slice_get xs i ≡ Some x
taken_at xs zero i x e = absurd (none≢some e)
taken_at [] (suc n) i x e = absurd (none≢some e)
taken_at (y ∷ xs) (suc n) zero x e = e
taken_at (y ∷ xs) (suc n) (suc i) x e = taken_at xs n i x e

-- a place of a member, and the member at a place
pub place_of : {X : Type 0} (xs : List X) (x : X) → Contains xs x → (i : ℕ) × (slice_get xs i ≡ Some x)
place_of xs x c = at xs c.0 c.1 c.2
  where
    at : {X : Type 0} {x : X} (xs : List X) (i : ℕ) → i < length xs → get_or xs i x ≡ x → (i : ℕ) × (slice_get xs i ≡ Some x)
    at [] i lt e = absurd (omega (arith, lt))
    at (y ∷ xs) zero lt e = (0, ap Some e)
    at (y ∷ xs) (suc i) lt e = let w = at xs i (omega (arith, lt)) e in (suc w.0, w.1)

pub member_at : {X : Type 0} (xs : List X) (i : ℕ) → i < length xs → (x : X) × (slice_get xs i ≡ Some x)
member_at [] i lt = absurd (omega (arith, lt))
member_at (x ∷ xs) zero lt = (x, refl)
member_at (x ∷ xs) (suc i) lt = member_at xs i (omega (arith, lt))

-- what holds at each place holds of all
pub all_by_place : {X : Type 0} (P : X → Type 0) (xs : List X) → ((i : ℕ) (x : X) → slice_get xs i ≡ Some x → P x) → AllByRecursion P xs
all_by_place P [] each = tt
all_by_place P (x ∷ xs) each = (each 0 x refl, all_by_place P xs (λ i y at. each (suc i) y at))

-- and what holds of all holds at each place
pub at_each_place : {X : Type 0} (P : X → Type 0) (xs : List X) → AllByRecursion P xs → (i : ℕ) (x : X) → slice_get xs i ≡ Some x → P x
at_each_place P [] all i x at = absurd (none≢some at)
at_each_place P (y ∷ xs) all zero x at = subst P (inside at) all.0
at_each_place P (y ∷ xs) all (suc i) x at = at_each_place P xs all.1 i x at
