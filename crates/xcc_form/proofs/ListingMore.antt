-- Listings one after the other.
use Rattle.std.proofs.Common.{◌≡◌, ◌⊎◌, ◌<◌, ◌≤◌, ◌-◌, ℕ, List, [], ◌∷◌, ◌++◌, length, length-append, get_or, zero, suc, arith, refl, sym, inl, inr, ⊎_elim}
use Rattle.std.proofs.lemmas.List.{get_or_append_left, get_or-append_right}
use Rattle.std.proofs.lemmas.List.Elements.{Contains-append_left, Contains-append_right, Contains-append_cases, Contains-get_or}
use Rattle.match_limits.specs.Listing.{IsListing}
use Rattle.match_limits.proofs.Listings.{lt_or_le}

-- the property may be said otherwise
pub listing_same : {X : Type 0} (Before : X → X → Type 0) (P Q : X → Type 0) (xs : List X) → ((x : X) → P x → Q x) → ((x : X) → Q x → P x) → IsListing Before P xs → IsListing Before Q xs
listing_same Before P Q xs to from h = record { only = λ x c. to x (h.only x c); all = λ x q. h.all x (from x q); rising = h.rising }

-- and the order too
pub listing_order : {X : Type 0} (Before After : X → X → Type 0) (P : X → Type 0) (xs : List X) → ((x y : X) → P x → P y → Before x y → After x y) → IsListing Before P xs → IsListing After P xs
listing_order Before After P xs to h = record {
  only = h.only;
  all = h.all;
  rising = λ i j d lt in_range. to (get_or xs i d) (get_or xs j d) (h.only (get_or xs i d) (Contains-get_or xs i d (omega (arith, lt, in_range)))) (h.only (get_or xs j d) (Contains-get_or xs j d in_range)) (h.rising i j d lt in_range);
}

module _ {X : Type 0} (Before : X → X → Type 0) (P Q R : X → Type 0) (xs ys : List X) where
  -- what one list has, then what the other has
  pub listing_append : IsListing Before P xs → IsListing Before Q ys → ((x y : X) → P x → Q y → Before x y) → ((x : X) → P x → R x) → ((x : X) → Q x → R x) → ((x : X) → R x → P x ⊎ Q x) → IsListing Before R (xs ++ ys)
  listing_append h k before left right either = record {
    only = λ x c. ⊎_elim (λ a. left x (h.only x a)) (λ b. right x (k.only x b)) (Contains-append_cases xs ys x c);
    all = λ x r. ⊎_elim (λ p. Contains-append_left xs ys x (h.all x p)) (λ q. Contains-append_right xs ys x (k.all x q)) (either x r);
    rising = λ i j d lt in_range. by_place i j d lt in_range (lt_or_le i (length xs)) (lt_or_le j (length xs));
  }
    where
      by_place : (i j : ℕ) (d : X) → i < j → j < length (xs ++ ys) → ((i < length xs) ⊎ (length xs ≤ i)) → ((j < length xs) ⊎ (length xs ≤ j)) → Before (get_or (xs ++ ys) i d) (get_or (xs ++ ys) j d)
      by_place i j d lt in_range (inl a) (inl b) =
          rw (get_or_append_left xs ys d i a, get_or_append_left xs ys d j b) (h.rising i j d lt b)
      by_place i j d lt in_range (inl a) (inr b) =
          let all = length-append xs ys in
          let inner : j - length xs < length ys = omega (arith, all, in_range, b) in
          rw (get_or_append_left xs ys d i a, get_or-append_right xs ys (length xs) j d refl b)
          (before (get_or xs i d) (get_or ys (j - length xs) d) (h.only (get_or xs i d) (Contains-get_or xs i d a)) (k.only (get_or ys (j - length xs) d) (Contains-get_or ys (j - length xs) d inner)))
      by_place i j d lt in_range (inr a) (inl b) = absurd (omega (arith, a, b, lt))
      by_place i j d lt in_range (inr a) (inr b) =
          let all = length-append xs ys in
          let inner : j - length xs < length ys = omega (arith, all, in_range, b) in
          let less : i - length xs < j - length xs = omega (arith, a, b, lt) in
          rw (get_or-append_right xs ys (length xs) i d refl a, get_or-append_right xs ys (length xs) j d refl b)
          (k.rising (i - length xs) (j - length xs) d less inner)

-- one thing alone
pub listing_one : {X : Type 0} (Before : X → X → Type 0) (y : X) → IsListing Before (λ x. x ≡ y) (y ∷ [])
listing_one Before y = record {
  only = λ x c. only_one x c.0 c.1 c.2;
  all = λ x e. (0, omega arith, sym e);
  rising = λ i j d lt in_range. absurd (omega (arith, lt, in_range));
}
  where
    only_one : (x : _) (i : ℕ) → i < length (y ∷ []) → get_or (y ∷ []) i x ≡ x → x ≡ y
    only_one x zero lt e = sym e
    only_one x (suc i) lt e = absurd (omega (arith, lt))

-- nothing at all
pub listing_nothing : {X : Type 0} (Before : X → X → Type 0) (P : X → Type 0) → ((x : X) → P x → ⊥) → IsListing Before P []
listing_nothing Before P none = record {
  only = λ x c. absurd (omega (arith, c.1));
  all = λ x p. absurd (none x p);
  rising = λ i j d lt in_range. absurd (omega (arith, in_range));
}
