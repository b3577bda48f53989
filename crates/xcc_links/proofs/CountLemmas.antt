-- How many numbers pass a test.
use Rattle.std.proofs.Common.{◌≡◌, ◌≢◌, ◌⊎◌, ◌<◌, ℕ, zero, suc, Bool, true, false, cond, List, [], ◌∷◌, ◌++◌, Contains, length, length-append, get_or, arith, refl, ap, sym, ◌∙◌, subst, inl, inr, ⊎_elim}
use Rattle.std.proofs.lemmas.Bool.{cases_eq, cases_Bool, cond-true, cond-false}
use Rattle.std.proofs.lemmas.List.{get_or_append_left, get_or_push}
use Rattle.std.proofs.lemmas.List.Elements.{Contains-append_left, Contains-push, Contains-push_cases, Contains-get_or}
use Rattle.match_limits.specs.Listing.{IsListing}
use Rattle.match_limits.proofs.Listings.{contains_none, same_listing}
use Rattle.xcc_links.specs.NodeLists.{count}

-- A number past all before it is added at the end.
pub listing_more : (P Q : ℕ → Type 0) (xs : List ℕ) (y : ℕ) → IsListing ◌<◌ P xs → ((x : ℕ) → P x → x < y) → ((x : ℕ) → P x → Q x) → Q y → ((x : ℕ) → Q x → P x ⊎ (x ≡ y)) → IsListing ◌<◌ Q (xs ++ y ∷ [])
listing_more P Q xs y h low up at back = record {
  only = λ x c. ⊎_elim (λ old. up x (h.only x old)) (λ e. subst Q e at) (Contains-push_cases xs y x c);
  all = λ x q. ⊎_elim (λ p. Contains-append_left xs (y ∷ []) x (h.all x p)) (λ e. subst (Contains (xs ++ y ∷ [])) (sym e) (Contains-push xs y)) (back x q);
  rising = λ i j d lt in_range. rising_push i j d lt in_range;
}
  where
    rising_push : (i j : ℕ) (d : ℕ) → i < j → j < length (xs ++ y ∷ []) → get_or (xs ++ y ∷ []) i d < get_or (xs ++ y ∷ []) j d
    rising_push i j d lt in_range =
        let all = length-append xs (y ∷ []) in
        let left : i < length xs = omega arith in
        let a = get_or_append_left xs (y ∷ []) d i left in
        ⊎_elim
        (λ (e : j ≡ length xs). let b = get_or_push xs y d j (sym e) in let s = low (get_or xs i d) (h.only (get_or xs i d) (Contains-get_or xs i d left)) in omega (arith, a, b, s))
        (λ (ne : j ≢ length xs). let inner : j < length xs = omega (arith, ne) in let b = get_or_append_left xs (y ∷ []) d j inner in let s = h.rising i j d lt inner in omega (arith, a, b, s))
        (cases_eq j (length xs))

-- the marks of the numbers below n that pass, in order
abbrev pub passing : (ℕ → ℕ) → (ℕ → Bool) → ℕ → List ℕ
passing mark test zero = []
passing mark test (suc n) = cond (test n) (passing mark test n ++ mark n ∷ []) (passing mark test n)

pub length_passing : (mark : ℕ → ℕ) (test : ℕ → Bool) (n : ℕ) → length (passing mark test n) ≡ count test n
length_passing mark test zero = refl
length_passing mark test (suc n) = by (test n) (length_passing mark test n)
  where
    by : (b : Bool) → length (passing mark test n) ≡ count test n → length (cond b (passing mark test n ++ mark n ∷ []) (passing mark test n)) ≡ cond b (suc (count test n)) (count test n)
    by true e = omega (arith, e, length-append (passing mark test n) (mark n ∷ []))
    by false e = e

-- A number below n that passes has the mark.
pub record IsPassed (mark : ℕ → ℕ) (test : ℕ → Bool) (n x : ℕ) : Type 0 where
  pub place : ℕ
  pub below : place < n
  pub passes : test place ≡ true
  pub marked : mark place ≡ x

pub listing_passing : (mark : ℕ → ℕ) (test : ℕ → Bool) (n : ℕ) → ((a b : ℕ) → a < b → b < n → test a ≡ true → test b ≡ true → mark a < mark b) → IsListing ◌<◌ (IsPassed mark test n) (passing mark test n)
listing_passing mark test zero rise = record {
  only = λ x c. absurd (contains_none x c);
  all = λ x p. absurd (let lt = p.below in omega (arith, lt));
  rising = λ i j d lt in_range. absurd (omega (arith, in_range));
}
listing_passing mark test (suc n) rise = let rest = listing_passing mark test n (λ a b lt bn. rise a b lt (omega (arith, bn))) in ⊎_elim
    (λ (e : test n ≡ true). subst (IsListing ◌<◌ (IsPassed mark test (suc n))) (sym (cond-true (test n) (passing mark test n ++ mark n ∷ []) (passing mark test n) e))
    (listing_more (IsPassed mark test n) (IsPassed mark test (suc n)) (passing mark test n) (mark n) rest
    (λ x p. let lt = rise p.place n p.below (omega arith) p.passes e in let m = p.marked in omega (arith, lt, m))
    (λ x p. record { place = p.place; below = (let lt = p.below in omega (arith, lt)); passes = p.passes; marked = p.marked })
    (record { place = n; below = omega arith; passes = e; marked = refl })
    (λ x p. ⊎_elim
    (λ (same : p.place ≡ n). inr (sym p.marked ∙ ap mark same))
    (λ (ne : p.place ≢ n). inl (record { place = p.place; below = (let lt = p.below in omega (arith, lt, ne)); passes = p.passes; marked = p.marked }))
    (cases_eq p.place n))))
    (λ (e : test n ≡ false). subst (IsListing ◌<◌ (IsPassed mark test (suc n))) (sym (cond-false (test n) (passing mark test n ++ mark n ∷ []) (passing mark test n) e))
    (record {
      only = λ x c. let p = rest.only x c in record { place = p.place; below = (let lt = p.below in omega (arith, lt)); passes = p.passes; marked = p.marked };
      all = λ x p. rest.all x (⊎_elim
          (λ (same : p.place ≡ n). absurd (let bad : true ≡ false = sym p.passes ∙ ap test same ∙ e in cc))
          (λ (ne : p.place ≢ n). record { place = p.place; below = (let lt = p.below in omega (arith, lt, ne)); passes = p.passes; marked = p.marked })
          (cases_eq p.place n));
      rising = rest.rising;
    }))
    (cases_Bool (test n))

-- However the marks of those that pass are described, there are as many.
pub count_listing : (mark : ℕ → ℕ) (test : ℕ → Bool) (n : ℕ) → ((a b : ℕ) → a < b → b < n → test a ≡ true → test b ≡ true → mark a < mark b) → (P : ℕ → Type 0) → ((x : ℕ) → IsPassed mark test n x → P x) → ((x : ℕ) → P x → IsPassed mark test n x) → (xs : List ℕ) → IsListing ◌<◌ P xs → count test n ≡ length xs
count_listing mark test n rise P to from xs h =
    let l = listing_passing mark test n rise in
    sym (length_passing mark test n) ∙ ap length (same_listing ◌<◌ (λ x y a b. omega (arith, a, b)) P (passing mark test n) xs (record { only = λ x c. to x (l.only x c); all = λ x p. l.all x (from x p); rising = l.rising }) h)
