-- Numbers with a property, counted from 0 on.
use Rattle.std.proofs.Common.{◌≡◌, ◌⊎◌, ◌<◌, ◌≤◌, ◌+◌, ◌++◌, ◌∷◌, [], ℕ, List, Option, None, Some, MatchOption, length, arith, ap, inl, inr, sym, ◌∙◌, subst, ⊎_elim}
use Rattle.std.proofs.lemmas.Bool.Decides.{eqb_tells}
use Rattle.std.proofs.lemmas.Option.{slice_get_within, get_or_from_slice_get}
use Rattle.match_limits.specs.declared.TheConstants.{MOST_CHILDREN}
use Rattle.match_limits.specs.Listing.{IsListing}
use Rattle.match_limits.proofs.Listings.{lt_or_le, same_listing}
use Rattle.xcc_form.specs.ExactCover.{Cover}
use Rattle.xcc_form.specs.Options.{Compiled, IsCompiled, cover_of}
use Rattle.xcc_form.proofs.OptionLemmas.{contains_at}
use Rattle.xcc_form.proofs.ListingMore.{listing_same, listing_append, listing_one, listing_nothing}
use Rattle.xcc_form.specs.Clashes.{IsOpenAt}
use Rattle.xcc_form.specs.Chosen.{HasSize, IsNext, IsLast}
use Rattle.xcc_dance.proofs.RoomLemmas.{AreDifferent, few_at}

-- the number is below this one, and has the property
abbrev pub IsBelow : (ℕ → Type 0) → (k n : ℕ) → Type 0
IsBelow P k n = (n < k) × P n

-- all numbers below this one that have the property, rising
abbrev pub AreBelow : (ℕ → Type 0) → (k : ℕ) → List ℕ → Type 0
AreBelow P k xs = IsListing ◌<◌ (IsBelow P k) xs

module _ (P : ℕ → Type 0) where
  pub below_none : AreBelow P 0 []
  below_none = listing_nothing ◌<◌ (IsBelow P 0) (λ n w. omega (arith, w.0))

  last_or_before : (k n : ℕ) → IsBelow P (k + 1) n → IsBelow P k n ⊎ (n ≡ k)
  last_or_before k n w = ⊎_elim (λ e. inr e.1) (λ ne. inl (omega (arith, w.0, ne.1), w.1)) (eqb_tells n k)

  pub below_one : (k : ℕ) (xs : List ℕ) → P k → AreBelow P k xs → AreBelow P (k + 1) (xs ++ k ∷ [])
  below_one k xs p w = listing_append ◌<◌ (IsBelow P k) (λ n. n ≡ k) (IsBelow P (k + 1)) xs (k ∷ []) w (listing_one ◌<◌ k)
      (λ n last t same. omega (arith, t.0, same))
      (λ n t. (omega (arith, t.0), t.1))
      (λ n same. subst (IsBelow P (k + 1)) (sym same) (omega arith, p))
      (last_or_before k)

  pub below_all : (k : ℕ) (xs : List ℕ) → ((n : ℕ) → P n → n < k) → AreBelow P k xs → IsListing ◌<◌ P xs
  below_all k xs few w = listing_same ◌<◌ (IsBelow P k) P xs (λ n t. t.1) (λ n p. (few n p, p)) w

  -- none between this number and the next bound
  pub below_gap : (k m : ℕ) (xs : List ℕ) → k ≤ m → ((n : ℕ) → k ≤ n → n < m → P n → ⊥) → AreBelow P k xs → AreBelow P m xs
  below_gap k m xs le none w = listing_same ◌<◌ (IsBelow P k) (IsBelow P m) xs
      (λ n t. (omega (arith, t.0, le), t.1))
      (λ n t. ⊎_elim (λ lt. (lt, t.1)) (λ ge. absurd (none n ge t.0 t.1)) (lt_or_le n k)) w

  -- they stand at different places
  pub below_apart : (k : ℕ) (xs : List ℕ) → AreBelow P k xs → AreDifferent xs
  below_apart k xs w i j q at at' =
      let here = get_or_from_slice_get xs i q q at in
      let there = get_or_from_slice_get xs j q q at' in
      let within = slice_get_within xs i q at in
      let within' = slice_get_within xs j q at' in
      let not_before : (i < j → ⊥) = λ lt. let less = w.rising i j q lt within' in omega (arith, less, here, there) in
      let not_after : (j < i → ⊥) = λ lt. let less = w.rising j i q lt within in omega (arith, less, here, there) in
      omega (arith, not_before, not_after)

-- ---- the open options of an item, one after the other

-- the number of the next one, or how many options there are
abbrev pub bound_of : (options : ℕ) → (next : Option ℕ) → ℕ
bound_of options None = options
bound_of options (Some option) = option

-- an item has one size
pub size_same : (x : Cover) (chosen : List ℕ) (item m n : ℕ) → HasSize x chosen item m → HasSize x chosen item n → m ≡ n
size_same x chosen item m n a b = sym a.2 ∙ ap length (same_listing ◌<◌ (λ i j l r. omega (arith, l, r)) (IsOpenAt x chosen item) a.0 b.0 a.1 b.1) ∙ b.2

module _ (x : Cover) (chosen : List ℕ) (item : ℕ) where
  -- all open options of the item before the next one, rising
  abbrev pub AreOpenBefore : (next : Option ℕ) → List ℕ → Type 0
  AreOpenBefore next options = AreBelow (IsOpenAt x chosen item) (bound_of (length x.options) next) options

  -- before the first there are none
  pub open_first : (next : Option ℕ) → MatchOption next (IsLast x chosen item None) (IsNext x chosen item None) → AreOpenBefore next []
  open_first None h = below_gap (IsOpenAt x chosen item) 0 (length x.options) [] (omega arith) (λ n le lt o. h n o tt) (below_none (IsOpenAt x chosen item))
  open_first (Some first) h = below_gap (IsOpenAt x chosen item) 0 first [] (omega arith) (λ n le lt o. let ge = h.first n o tt in omega (arith, lt, ge)) (below_none (IsOpenAt x chosen item))

  -- before the next there is this one more
  pub open_next : (option : ℕ) (options : List ℕ) (next : Option ℕ) → IsOpenAt x chosen item option → MatchOption next (IsLast x chosen item (Some option)) (IsNext x chosen item (Some option)) → AreOpenBefore (Some option) options → AreOpenBefore next (options ++ option ∷ [])
  open_next option options None is h w = below_gap (IsOpenAt x chosen item) (option + 1) (length x.options) (options ++ option ∷ []) (let real = is.open_option.real in omega (arith, real)) (λ n le lt o. h n o (omega (arith, le))) (below_one (IsOpenAt x chosen item) option options is w)
  open_next option options (Some later) is h w = below_gap (IsOpenAt x chosen item) (option + 1) later (options ++ option ∷ []) (let after = h.after_it in omega (arith, after)) (λ n le lt o. let ge = h.first n o (omega (arith, le)) in omega (arith, lt, ge)) (below_one (IsOpenAt x chosen item) option options is w)

  -- the one, what comes before it, and nothing else come before the next one
  pub before_next : (option : ℕ) → IsOpenAt x chosen item option → (next : Option ℕ) → MatchOption next (IsLast x chosen item (Some option)) (IsNext x chosen item (Some option)) → (option < bound_of (length x.options) next) × ((other : ℕ) → IsOpenAt x chosen item other → other < bound_of (length x.options) next → other ≤ option)
  before_next option is None h = (is.open_option.real, λ other other_open lt. ⊎_elim (λ after. absurd (h other other_open after)) (λ le. le) (lt_or_le option other))
  before_next option is (Some later) h = (h.after_it, λ other other_open lt. ⊎_elim (λ after. let le = h.first other other_open after in absurd (omega (arith, lt, le))) (λ le. le) (lt_or_le option other))

  -- where there is no next one, these are all
  pub open_all : (options : List ℕ) → AreOpenBefore None options → IsListing ◌<◌ (IsOpenAt x chosen item) options
  open_all options w = below_all (IsOpenAt x chosen item) (length x.options) options (λ n o. o.open_option.real) w

-- there are no more open options of an item than a branch may have children
pub few_below : (x : Compiled) (is : IsCompiled x) (chosen : List ℕ) (item k : ℕ) (options : List ℕ) → AreBelow (IsOpenAt (cover_of x) chosen item) k options → length options ≤ MOST_CHILDREN
few_below x is chosen item k options w =
    few_at x is options item (below_apart (IsOpenAt (cover_of x) chosen item) k options w) (λ i o at. (w.only o (contains_at options i o at)).1.at)

pub few_sized : (x : Compiled) (is : IsCompiled x) (chosen : List ℕ) (item size : ℕ) → HasSize (cover_of x) chosen item size → size ≤ MOST_CHILDREN
few_sized x is chosen item size w =
    let few = few_below x is chosen item (length (cover_of x).options) w.0 (listing_same ◌<◌ (IsOpenAt (cover_of x) chosen item) (IsBelow (IsOpenAt (cover_of x) chosen item) (length (cover_of x).options)) w.0 (λ n o. (o.open_option.real, o)) (λ n t. t.1) w.1) in
    let long = w.2 in
    omega (arith, few, long)
