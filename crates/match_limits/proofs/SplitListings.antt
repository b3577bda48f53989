-- Lists of all things with a property that fall in two, and images of such lists.
use Rattle.std.proofs.Common.{◌≡◌, ◌⊎◌, ◌<◌, ◌+◌, ℕ, zero, suc, List, [], ◌∷◌, length, map, get_or, arith, refl, ap, sym, ◌∙◌, subst, inl, inr, ⊎_elim}
use Rattle.std.proofs.lemmas.List.{get_or-map, length-map}
use Rattle.std.proofs.lemmas.List.Elements.{Contains-get_or}
use Rattle.match_limits.specs.Listing.{IsListing}
use Rattle.match_limits.proofs.Listings.{IsAsymmetric, in_front, first_before, listing_rest, contains_none}

-- the same things by another property
pub listing_as : {X : Type 0} (Before : X → X → Type 0) (P Q : X → Type 0) (xs : List X) → ((x : X) → P x → Q x) → ((x : X) → Q x → P x) → IsListing Before P xs → IsListing Before Q xs
listing_as Before P Q xs there back is = record { only = λ x c. there x (is.only x c); all = λ x h. is.all x (back x h); rising = is.rising }

-- no thing has the property
pub listing_of_none : {X : Type 0} (Before : X → X → Type 0) (P : X → Type 0) → ((x : X) → P x → ⊥) → IsListing Before P []
listing_of_none Before P none = record {
  only = λ x c. absurd (contains_none x c);
  all = λ x h. absurd (none x h);
  rising = λ i j d lt in_range. absurd (omega (arith, in_range));
}

module _ {X : Type 0} (Before : X → X → Type 0) (asymmetric : IsAsymmetric Before) where
  -- the first, and what comes after it
  module _ (P : X → Type 0) (x : X) (xs : List X) (is : IsListing Before P (x ∷ xs)) where
    pub first_has_it : P x
    first_has_it = is.only x (0, omega arith, refl)

    first_or_after : (y : X) → P y → (x ≡ y) ⊎ (P y × Before x y)
    first_or_after y h = ⊎_elim (λ e. inl e) (λ c. inr (h, first_before Before asymmetric P x xs y is c)) (in_front Before asymmetric x xs y (is.all y h))

    module _ (Q : X → Type 0) (ys : List X) (after : IsListing Before (λ y. (P y × Before x y) × Q y) ys) where
      -- the first has the second property too
      pub first_has : Q x → IsListing Before (λ y. P y × Q y) (x ∷ ys)
      first_has has = record {
        only = λ y c. ⊎_elim (λ e. subst (λ z. P z × Q z) e (first_has_it, has)) (λ d. let h = after.only y d in (h.0.0, h.1)) (in_front Before asymmetric x ys y c);
        all = λ y h. ⊎_elim (λ e. (0, omega arith, e)) (λ a. let c = after.all y (a, h.1) in (suc c.0, omega (arith, c.1), c.2)) (first_or_after y h.0);
        rising = λ i j d lt in_range. rises i j d lt in_range;
      }
        where
          rises : (i j : ℕ) (d : X) → i < j → j < length (x ∷ ys) → Before (get_or (x ∷ ys) i d) (get_or (x ∷ ys) j d)
          rises zero zero d lt in_range = absurd (omega (arith, lt))
          rises zero (suc j) d lt in_range = (after.only (get_or ys j d) (Contains-get_or ys j d (omega (arith, in_range)))).0.1
          rises (suc i) zero d lt in_range = absurd (omega (arith, lt))
          rises (suc i) (suc j) d lt in_range = after.rising i j d (omega (arith, lt)) (omega (arith, in_range))

      pub first_has_not : (Q x → ⊥) → IsListing Before (λ y. P y × Q y) ys
      first_has_not hasnt =
          listing_as Before (λ y. (P y × Before x y) × Q y) (λ y. P y × Q y) ys (λ y h. (h.0.0, h.1)) (λ y h. (⊎_elim (λ e. absurd (hasnt (subst Q (sym e) h.1))) (λ a. a) (first_or_after y h.0), h.1)) after

  -- Of each thing it is known which of two properties it has: the list of all falls in two.
  pub listing_split : (P Q R : X → Type 0) (xs : List X) → ((x : X) → P x → Q x ⊎ R x) → ((x : X) → Q x → R x → ⊥) → IsListing Before P xs →
      (ys : List X) × (zs : List X) × IsListing Before (λ x. P x × Q x) ys × IsListing Before (λ x. P x × R x) zs × (length ys + length zs ≡ length xs)
  listing_split P Q R [] either not_both is =
      let none : (x : X) → P x → ⊥ = λ x h. contains_none x (is.all x h) in
      ([], [], listing_of_none Before (λ x. P x × Q x) (λ x h. none x h.0), listing_of_none Before (λ x. P x × R x) (λ x h. none x h.0), refl)
  listing_split P Q R (x ∷ xs) either not_both is =
      with_first (either x (first_has_it P x xs is)) (listing_split (λ y. P y × Before x y) Q R xs (λ y h. either y h.0) not_both (listing_rest Before asymmetric P x xs is))
    where
      with_first : Q x ⊎ R x → (ys : List X) × (zs : List X) × IsListing Before (λ y. (P y × Before x y) × Q y) ys × IsListing Before (λ y. (P y × Before x y) × R y) zs × (length ys + length zs ≡ length xs) →
          (ys : List X) × (zs : List X) × IsListing Before (λ y. P y × Q y) ys × IsListing Before (λ y. P y × R y) zs × (length ys + length zs ≡ length (x ∷ xs))
      with_first (inl q) w = (x ∷ w.0, w.1, first_has P x xs is Q w.0 w.2 q, first_has_not P x xs is R w.1 w.3 (λ r. not_both x q r), omega (arith, w.4))
      with_first (inr r) w = (w.0, x ∷ w.1, first_has_not P x xs is Q w.0 w.2 (λ q. not_both x q r), first_has P x xs is R w.1 w.3 r, omega (arith, w.4))

-- Where the things with a property are those of rising numbers, and come in their order, the list of all is that of the
-- numbers' things.
pub listing_mapped : {X : Type 0} (Before : X → X → Type 0) (f : ℕ → X) (P : ℕ → Type 0) (Q : X → Type 0) (numbers : List ℕ) → ((m n : ℕ) → P m → P n → m < n → Before (f m) (f n)) → ((n : ℕ) → P n → Q (f n)) → ((x : X) → Q x → (n : ℕ) × P n × (f n ≡ x)) →
    IsListing ◌<◌ P numbers → IsListing Before Q (map f numbers)
listing_mapped Before f P Q numbers rises there back is = record {
  only = λ x c.
      let lt : c.0 < length numbers = omega (arith, c.1, length-map numbers f) in
      subst Q (sym (get_or-map f numbers c.0 0 x lt) ∙ c.2) (there (get_or numbers c.0 0) (is.only (get_or numbers c.0 0) (Contains-get_or numbers c.0 0 lt)));
  all = λ x h.
      let w = back x h in
      let c = is.all w.0 w.1 in
      (c.0, omega (arith, c.1, length-map numbers f), get_or-map f numbers c.0 w.0 x c.1 ∙ ap f c.2 ∙ w.2);
  rising = λ i j d lt in_range.
      let right : j < length numbers = omega (arith, in_range, length-map numbers f) in
      let left : i < length numbers = omega (arith, lt, right) in
      subst (λ a. Before a (get_or (map f numbers) j d)) (sym (get_or-map f numbers i 0 d left))
      (subst (Before (f (get_or numbers i 0))) (sym (get_or-map f numbers j 0 d right))
      (rises (get_or numbers i 0) (get_or numbers j 0) (is.only (get_or numbers i 0) (Contains-get_or numbers i 0 left)) (is.only (get_or numbers j 0) (Contains-get_or numbers j 0 right)) (is.rising i j 0 lt right)));
}
