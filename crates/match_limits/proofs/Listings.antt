-- How a list of all things with a property grows.
use Rattle.std.proofs.Common.{◌≡◌, ◌⊎◌, ◌<◌, ◌≤◌, ◌+◌, ℕ, zero, suc, List, [], ◌∷◌, ◌++◌, Contains, length, length-append, get_or, arith, refl, ap, sym, ◌∙◌, subst, inl, inr, ⊎_elim}
use Rattle.std.proofs.Math.Logic.{⊎_map}
use Rattle.std.proofs.lemmas.List.{get_or_append_left, get_or_push}
use Rattle.std.proofs.lemmas.List.Elements.{Contains-append_left, Contains-push, Contains-push_cases, Contains-get_or}
use Rattle.std.proofs.lemmas.Bool.Decides.{eqb_tells}
use Rattle.match_limits.specs.Listing.{ComesBefore, ByKey, IsListing, HoldsBefore}

-- nothing is in an empty list
pub contains_none : {X : Type 0} (x : X) → Contains [] x → ⊥
contains_none x c = omega (arith, c.1)

before_one_more : (k n : ℕ × ℕ) → ComesBefore k n → ComesBefore k (n.0, n.1 + 1)
before_one_more k n h = ⊎_map (λ l. l) (λ e. (e.0, omega (arith, e.1))) h

-- what comes before the next key is the key or before it
before_next : (k n : ℕ × ℕ) → ComesBefore k (n.0, n.1 + 1) → ComesBefore k n ⊎ ((k.0 ≡ n.0) × (k.1 ≡ n.1))
before_next k n h =
    ⊎_elim
    (λ l. inl (inl l))
    (λ e. ⊎_elim (λ same. inr (e.0, same.1)) (λ other. inl (inr (e.0, omega (arith, e.1, other.1)))) (eqb_tells k.1 n.1))
    h

module _ {X : Type 0} (key : X → ℕ × ℕ) (P : X → Type 0) where
  pub listing_none : IsListing (ByKey key) (HoldsBefore key P (0, 0)) []
  listing_none = record {
    only = λ x c. absurd (contains_none x c);
    all = λ x h. absurd (⊎_elim (λ l. omega (arith, l)) (λ e. omega (arith, e.1)) h.1);
    rising = λ i j d lt in_range. absurd (omega (arith, in_range));
  }

  -- the thing with this key doesn't have the property
  pub listing_skip : (n : ℕ × ℕ) (xs : List X) → ((x : X) → P x → (key x).0 ≡ n.0 → (key x).1 ≡ n.1 → ⊥) → IsListing (ByKey key) (HoldsBefore key P n) xs → IsListing (ByKey key) (HoldsBefore key P (n.0, n.1 + 1)) xs
  listing_skip n xs none h = record {
    only = λ x c. let w = h.only x c in (w.0, before_one_more (key x) n w.1);
    all = λ x w. ⊎_elim (λ b. h.all x (w.0, b)) (λ e. absurd (none x w.0 e.0 e.1)) (before_next (key x) n w.1);
    rising = h.rising;
  }

  -- the thing with this key has the property
  pub listing_push : (n : ℕ × ℕ) (xs : List X) (y : X) → P y → key y ≡ n → ((x : X) → P x → (key x).0 ≡ n.0 → (key x).1 ≡ n.1 → x ≡ y) → IsListing (ByKey key) (HoldsBefore key P n) xs → IsListing (ByKey key) (HoldsBefore key P (n.0, n.1 + 1)) (xs ++ y ∷ [])
  listing_push n xs y holds at one h = record {
    only = λ x c. ⊎_elim (λ old. let w = h.only x old in (w.0, before_one_more (key x) n w.1)) (λ e. subst (HoldsBefore key P (n.0, n.1 + 1)) e (holds, inr (ap (λ (k : ℕ × ℕ). k.0) at, omega (arith, ap (λ (k : ℕ × ℕ). k.1) at)))) (Contains-push_cases xs y x c);
    all = λ x w. ⊎_elim (λ b. Contains-append_left xs (y ∷ []) x (h.all x (w.0, b))) (λ e. subst (Contains (xs ++ y ∷ [])) (sym (one x w.0 e.0 e.1)) (Contains-push xs y)) (before_next (key x) n w.1);
    rising = λ i j d lt in_range. rising_push i j d lt in_range;
  }
    where
      rising_push : (i j : ℕ) (d : X) → i < j → j < length (xs ++ y ∷ []) → ComesBefore (key (get_or (xs ++ y ∷ []) i d)) (key (get_or (xs ++ y ∷ []) j d))
      rising_push i j d lt in_range =
          let all = length-append xs (y ∷ []) in
          let left : i < length xs = omega arith in
          subst (λ a. ComesBefore (key a) (key (get_or (xs ++ y ∷ []) j d))) (sym (get_or_append_left xs (y ∷ []) d i left))
          (⊎_elim
          (λ e. subst (λ b. ComesBefore (key (get_or xs i d)) (key b)) (sym (get_or_push xs y d j (sym e.1))) (subst (ComesBefore (key (get_or xs i d))) (sym at) (h.only (get_or xs i d) (Contains-get_or xs i d left)).1))
          (λ ne. let inner : j < length xs = omega (arith, ne.1) in subst (λ b. ComesBefore (key (get_or xs i d)) (key b)) (sym (get_or_append_left xs (y ∷ []) d j inner)) (h.rising i j d lt inner))
          (eqb_tells j (length xs)))

  -- the next row, where the second number is bounded
  pub listing_row : (n s : ℕ) (xs : List X) → ((x : X) → P x → (key x).1 < s) → IsListing (ByKey key) (HoldsBefore key P (n, s)) xs → IsListing (ByKey key) (HoldsBefore key P (n + 1, 0)) xs
  listing_row n s xs bound h = record {
    only = λ x c. let w = h.only x c in (w.0, ⊎_elim (λ l. inl (omega (arith, l))) (λ e. inl (omega (arith, e.0))) w.1);
    all = λ x w. h.all x (w.0, row x w.0 w.1);
    rising = h.rising;
  }
    where
      row : (x : X) → P x → ComesBefore (key x) (n + 1, 0) → ComesBefore (key x) (n, s)
      row x p b = ⊎_elim (λ l. ⊎_elim (λ e. inr (e.1, bound x p)) (λ ne. inl (omega (arith, l, ne.1))) (eqb_tells (key x).0 n)) (λ e. absurd (omega (arith, e.1))) b

  -- all, where the first number is bounded
  pub listing_all : (n : ℕ) (xs : List X) → ((x : X) → P x → (key x).0 < n) → IsListing (ByKey key) (HoldsBefore key P (n, 0)) xs → IsListing (ByKey key) P xs
  listing_all n xs bound h = record {
    only = λ x c. (h.only x c).0;
    all = λ x p. h.all x (p, inl (bound x p));
    rising = h.rising;
  }

-- What comes before a thing does not come after it.
abbrev pub IsAsymmetric : {X : Type 0} → (X → X → Type 0) → Type 0
IsAsymmetric {X} Before = (x y : X) → Before x y → Before y x → ⊥

pub comes_before_asymmetric : IsAsymmetric ComesBefore
comes_before_asymmetric x y p q = ⊎_elim (λ l. ⊎_elim (λ m. omega (arith, l, m)) (λ e. omega (arith, l, e.0)) q) (λ e. ⊎_elim (λ m. omega (arith, e.0, m)) (λ f. omega (arith, e.1, f.1)) q) p

pub comes_before_trans : (x y z : ℕ × ℕ) → ComesBefore x y → ComesBefore y z → ComesBefore x z
comes_before_trans x y z p q = ⊎_elim (λ l. ⊎_elim (λ m. inl (omega (arith, l, m))) (λ e. inl (omega (arith, l, e.0))) q) (λ e. ⊎_elim (λ m. inl (omega (arith, e.0, m))) (λ f. inr (e.0 ∙ f.0, omega (arith, e.1, f.1))) q) p

pub by_key_asymmetric : {X : Type 0} → (key : X → ℕ × ℕ) → IsAsymmetric (ByKey key)
by_key_asymmetric key x y p q = comes_before_asymmetric (key x) (key y) p q

module _ {X : Type 0} (Before : X → X → Type 0) (asymmetric : IsAsymmetric Before) where
  abbrev pub After : (X → Type 0) → X → X → Type 0
  After P x y = P y × Before x y

  -- what is in a list with one more in front
  pub in_front : (x : X) (xs : List X) (y : X) → Contains (x ∷ xs) y → (x ≡ y) ⊎ Contains xs y
  in_front x xs y c = by_place c.0 c.1 c.2
    where
      by_place : (k : ℕ) → k < length (x ∷ xs) → get_or (x ∷ xs) k y ≡ y → (x ≡ y) ⊎ Contains xs y
      by_place zero lt e = inl e
      by_place (suc k) lt e = inr (k, omega (arith, lt), e)

  pub first_before : (P : X → Type 0) (x : X) (xs : List X) (y : X) → IsListing Before P (x ∷ xs) → Contains xs y → Before x y
  first_before P x xs y h c = subst (Before x) c.2 (h.rising 0 (suc c.0) y (omega arith) (omega (arith, c.1)))

  pub listing_rest : (P : X → Type 0) (x : X) (xs : List X) → IsListing Before P (x ∷ xs) → IsListing Before (After P x) xs
  listing_rest P x xs h = record {
    only = λ y c. (h.only y (suc c.0, omega (arith, c.1), c.2), first_before P x xs y h c);
    all = λ y w. ⊎_elim (λ e. absurd (let b : Before y y = subst (λ z. Before z y) e w.1 in asymmetric y y b b)) (λ c. c) (in_front x xs y (h.all y w.0));
    rising = λ i j d lt in_range. h.rising (suc i) (suc j) d (omega arith) (omega (arith, in_range));
  }

  same_first : (P : X → Type 0) (x y : X) (xs ys : List X) → IsListing Before P (x ∷ xs) → IsListing Before P (y ∷ ys) → x ≡ y
  same_first P x y xs ys h k =
      ⊎_elim
      (λ e. e)
      (λ c. ⊎_elim (λ e. sym e) (λ d. absurd (asymmetric x y (first_before P x xs y h c) (first_before P y ys x k d))) (in_front y ys x (k.all x (h.only x (0, omega arith, refl)))))
      (in_front x xs y (h.all y (k.only y (0, omega arith, refl))))

  -- There is only one list of all things with a property.
  pub same_listing : (P : X → Type 0) (xs ys : List X) → IsListing Before P xs → IsListing Before P ys → xs ≡ ys
  same_listing P [] [] h k = refl
  same_listing P [] (y ∷ ys) h k = absurd (contains_none y (h.all y (k.only y (0, omega arith, refl))))
  same_listing P (x ∷ xs) [] h k = absurd (contains_none x (k.all x (h.only x (0, omega arith, refl))))
  same_listing P (x ∷ xs) (y ∷ ys) h k =
      let e = same_first P x y xs ys h k in
      let rest = same_listing (After P x) xs ys (listing_rest P x xs h) (subst (λ z. IsListing Before (After P z) ys) (sym e) (listing_rest P y ys k)) in
      ap (λ z. z ∷ xs) e ∙ ap (λ zs. y ∷ zs) rest

-- of two numbers one is less or at most the other
pub lt_or_le : (m n : ℕ) → (m < n) ⊎ (n ≤ m)
lt_or_le m zero = inr (omega arith)
lt_or_le zero (suc n) = inl (omega arith)
lt_or_le (suc m) (suc n) = ⊎_elim (λ l. inl (omega (arith, l))) (λ l. inr (omega (arith, l))) (lt_or_le m n)
