-- Sets of numbers, as the binary digits of words.
use Rattle.std.proofs.Common.{◌≡◌, ◌≢◌, ◌⊎◌, ◌<◌, ◌≤◌, ◌+◌, ◌-◌, ◌*◌, ◌/◌, ◌%◌, ◌^◌, ℕ, zero, suc, List, [], ◌∷◌, ◌++◌, ◌==◌, if◌then◌else◌, Contains, length, replicate, set, length-set, take, get_or, min, max, count_ones, bit_and, bit_or, ◌↔◌, arith, refl, ap, sym, ◌∙◌, subst, inl, inr, ⊎_elim}
use Rattle.std.proofs.lemmas.Bool.Decides.{eqb_tells}
use Rattle.std.specs.Int.{bit_at, bit_not, trailing_zeros, w64}
use Rattle.std.proofs.lemmas.List.{take_more, get_or-take, length-take, get_or_past, get_or-replicate, get_or-set_same, get_or-set_other}
use Rattle.std.proofs.lemmas.List.Elements.{Contains-get_or}
use lib.Count.{ones}
use Rattle.std.proofs.lemmas.Nat.{ones_cat, pow-add, ones-le}
use Rattle.std.proofs.lemmas.Nat.{and_le_l, or_lt, mod_below, shr-shr, shl_whole, shl_below, pow_pos}
use Rattle.std.proofs.lemmas.Nat.Bits.{bit_at_and, bit_at_or, bit_at_ones, bit_at_not, bit_at_clear_same, bit_at_clear_other, bit_at-trailing_zeros, bit_at_above, bit_at-lt as bit_at_lt, bit_at_lowest, bit_at-suc, bit_at-zero, bit_at_cat_low, bit_at_cat_high}
use Rattle.match_limits.specs.Listing.{IsListing}
use Rattle.match_limits.proofs.Listings.{contains_none, in_front, same_listing, IsAsymmetric, lt_or_le}
use Rattle.match_limits.specs.declared.number_sets.TheConstants.{WORDS, NUMBERS, GROUPS}
use Rattle.match_limits.specs.NumberSets.{joined, places_of_ones, members, AreWordsOfSet, IsGroup}

-- ---- the places of ones

even_or_odd : (n : ℕ) → (n % 2 ≡ 0) ⊎ (n % 2 ≡ 1)
even_or_odd n = ⊎_elim (λ e. inl e) (λ e. inr e) (cases (n % 2) (omega arith))
  where
    cases : (m : ℕ) → m < 2 → (m ≡ 0) ⊎ (m ≡ 1)
    cases zero lt = inl refl
    cases (suc zero) lt = inr refl
    cases (suc (suc m)) lt = absurd (omega arith)

places_odd : (digits first number : ℕ) → number % 2 ≡ 1 → places_of_ones (suc digits) first number ≡ first ∷ places_of_ones digits (first + 1) (number / 2)
unfolding places_of_ones
places_odd digits first number e = ap (λ m. if m == 1 then first ∷ places_of_ones digits (first + 1) (number / 2) else places_of_ones digits (first + 1) (number / 2)) e

places_even : (digits first number : ℕ) → number % 2 ≡ 0 → places_of_ones (suc digits) first number ≡ places_of_ones digits (first + 1) (number / 2)
unfolding places_of_ones
places_even digits first number e = ap (λ m. if m == 1 then first ∷ places_of_ones digits (first + 1) (number / 2) else places_of_ones digits (first + 1) (number / 2)) e

no_places : (first number : ℕ) → places_of_ones zero first number ≡ []
unfolding places_of_ones
no_places first number = refl

-- a place where a one stands
pub record IsPlace (digits first number place : ℕ) : Type 0 where
  pub digit : ℕ
  pub at : place ≡ first + digit
  pub in_range : digit < digits
  pub one : bit_at number digit ≡ 1

later_place : (digits first number place : ℕ) → IsPlace digits (first + 1) (number / 2) place → IsPlace (suc digits) first number place
later_place digits first number place h = record {
  digit = suc h.digit;
  at = omega (arith, h.at);
  in_range = omega (arith, h.in_range);
  one = bit_at-suc number h.digit ∙ h.one;
}

pub only_places : (digits first number place : ℕ) → Contains (places_of_ones digits first number) place → IsPlace digits first number place
only_places zero first number place c = absurd (contains_none place (subst (λ xs. Contains xs place) (no_places first number) c))
only_places (suc digits) first number place c =
    ⊎_elim
    (λ even. later_place digits first number place (only_places digits (first + 1) (number / 2) place (subst (λ xs. Contains xs place) (places_even digits first number even) c)))
    (λ odd. ⊎_elim
    (λ e. record { digit = zero; at = omega (arith, e); in_range = omega arith; one = bit_at_lowest number ∙ odd })
    (λ rest. later_place digits first number place (only_places digits (first + 1) (number / 2) place rest))
    (in_front ◌<◌ (λ x y p q. omega (arith, p, q)) first (places_of_ones digits (first + 1) (number / 2)) place (subst (λ xs. Contains xs place) (places_odd digits first number odd) c)))
    (even_or_odd number)

pub behind : {X : Type 0} (x : X) (xs : List X) (y : X) → Contains xs y → Contains (x ∷ xs) y
behind x xs y c = (suc c.0, omega (arith, c.1), c.2)

pub all_places : (digits first number digit : ℕ) → digit < digits → bit_at number digit ≡ 1 → Contains (places_of_ones digits first number) (first + digit)
all_places zero first number digit lt one = absurd (omega arith)
all_places (suc digits) first number zero lt one =
    subst (λ xs. Contains xs (first + zero)) (sym (places_odd digits first number (sym (bit_at_lowest number) ∙ one))) (0, omega arith, omega arith)
all_places (suc digits) first number (suc digit) lt one =
    let rest = all_places digits (first + 1) (number / 2) digit (omega arith) (sym (bit_at-suc number digit) ∙ one) in
    let here : Contains (places_of_ones digits (first + 1) (number / 2)) (first + suc digit) = subst (Contains (places_of_ones digits (first + 1) (number / 2))) (let e : first + 1 + digit ≡ first + suc digit = omega arith in e) rest in
    ⊎_elim
    (λ even. subst (λ xs. Contains xs (first + suc digit)) (sym (places_even digits first number even)) here)
    (λ odd. subst (λ xs. Contains xs (first + suc digit)) (sym (places_odd digits first number odd)) (behind first _ _ here))
    (even_or_odd number)

-- a list rises
abbrev Rises : List ℕ → Type 0
Rises xs = (i j d : ℕ) → i < j → j < length xs → get_or xs i d < get_or xs j d

rises_none : Rises []
rises_none i j d lt in_range = absurd (omega (arith, in_range))

rises_more : (x : ℕ) (xs : List ℕ) → ((y : ℕ) → Contains xs y → x < y) → Rises xs → Rises (x ∷ xs)
rises_more x xs above h zero zero d lt in_range = absurd (omega (arith, lt))
rises_more x xs above h zero (suc j) d lt in_range = above (get_or xs j d) (Contains-get_or xs j d (omega (arith, in_range)))
rises_more x xs above h (suc i) zero d lt in_range = absurd (omega (arith, lt))
rises_more x xs above h (suc i) (suc j) d lt in_range = h i j d (omega (arith, lt)) (omega (arith, in_range))

pub places_rise : (digits first number : ℕ) → Rises (places_of_ones digits first number)
places_rise zero first number = subst Rises (sym (no_places first number)) rises_none
places_rise (suc digits) first number =
    let rest = places_rise digits (first + 1) (number / 2) in
    ⊎_elim
    (λ even. subst Rises (sym (places_even digits first number even)) rest)
    (λ odd. subst Rises (sym (places_odd digits first number odd)) (rises_more first _ (λ y c. let p = only_places digits (first + 1) (number / 2) y c in omega (arith, p.at)) rest))
    (even_or_odd number)

-- there are as many as ones
pub many_places : (digits first number : ℕ) → number < 2 ^ digits → length (places_of_ones digits first number) ≡ count_ones number
unfolding ones
many_places zero first number lt = ap length (no_places first number) ∙ ap count_ones (let e : 0 ≡ number = omega arith in e)
many_places (suc digits) first number lt =
    let rest = many_places digits (first + 1) (number / 2) (omega arith) in
    let halves : (number / 2) * 2 ^ 1 + number % 2 ≡ number = omega arith in
    let parts = sym (ap count_ones halves) ∙ ones_cat 1 (number / 2) (number % 2) (omega arith) in
    ⊎_elim
    (λ even. ap length (places_even digits first number even) ∙ rest ∙ (let e = ap count_ones even in omega (arith, parts, e)))
    (λ odd. ap length (places_odd digits first number odd) ∙ (let e = ap count_ones odd in omega (arith, parts, e, rest)))
    (even_or_odd number)

pub places_of_zero : (digits first : ℕ) → places_of_ones digits first 0 ≡ []
places_of_zero zero first = no_places first 0
places_of_zero (suc digits) first = places_even digits first 0 refl ∙ places_of_zero digits (first + 1)

-- ---- words one after the other

abbrev pub AreWords : List ℕ → Type 0
AreWords words = (i : ℕ) → get_or words i 0 < 2 ^ 64

pub bit_joined : (words : List ℕ) → AreWords words → (i r : ℕ) → r < 64 → bit_at (joined words) (64 * i + r) ≡ bit_at (get_or words i 0) r
unfolding joined
bit_joined [] small i r lt = bit_at-zero (64 * i + r) ∙ sym (bit_at-zero r)
bit_joined (word ∷ words) small zero r lt = ap (bit_at (joined words * 2 ^ 64 + word)) (let e : 64 * 0 + r ≡ r = omega arith in e) ∙ bit_at_cat_low (joined words) 64 word r lt
bit_joined (word ∷ words) small (suc i) r lt =
    bit_at_cat_high (joined words) 64 word (64 * suc i + r) (small 0) (omega arith) ∙ ap (bit_at (joined words)) (let e : 64 * suc i + r - 64 ≡ 64 * i + r = omega arith in e) ∙ bit_joined words (λ k. small (suc k)) i r lt

pub joined_below : (words : List ℕ) → AreWords words → joined words < 2 ^ (64 * length words)
unfolding joined
joined_below [] small = omega arith
joined_below (word ∷ words) small =
    let rest = joined_below words (λ k. small (suc k)) in
    let first = small 0 in
    let more : 64 * length (word ∷ words) ≡ 64 * length words + 64 = omega arith in
    let power = ap (λ k. 2 ^ k) more ∙ pow-add 2 (64 * length words) 64 in
    omega (arith, power)

joined_push : (words : List ℕ) (word : ℕ) → joined (words ++ word ∷ []) ≡ word * 2 ^ (64 * length words) + joined words
unfolding joined
joined_push [] word = omega arith
joined_push (first ∷ words) word =
    let rest = joined_push words word in
    let more : 64 * length (first ∷ words) ≡ 64 * length words + 64 = omega arith in
    let power = ap (λ k. word * 2 ^ k) more ∙ ap (λ k. word * k) (pow-add 2 (64 * length words) 64) in
    omega (arith, power, rest)

-- the ones of one word more
pub ones_push : (words : List ℕ) (word : ℕ) → AreWords words → count_ones (joined (words ++ word ∷ [])) ≡ count_ones word + count_ones (joined words)
ones_push words word small = ap count_ones (joined_push words word) ∙ ones_cat (64 * length words) word (joined words) (joined_below words small)

-- ---- members

module _ (words : List ℕ) (small : AreWords words) where
  digit_of : (n : ℕ) → bit_at (joined words) n ≡ bit_at (get_or words (n / 64) 0) (n % 64)
  digit_of n = ap (bit_at (joined words)) (let e : n ≡ 64 * (n / 64) + n % 64 = omega arith in e) ∙ bit_joined words small (n / 64) (n % 64) (omega arith)

  pub only_members : (n : ℕ) → Contains (members words) n → (n < NUMBERS) × (bit_at (get_or words (n / 64) 0) (n % 64) ≡ 1)
  unfolding members
  only_members n c =
      let p = only_places NUMBERS 0 (joined words) n c in
      let e : p.digit ≡ n = omega (arith, p.at) in
      (omega (arith, p.at, p.in_range), sym (digit_of n) ∙ ap (bit_at (joined words)) (sym e) ∙ p.one)

  pub all_members : (n : ℕ) → n < NUMBERS → bit_at (get_or words (n / 64) 0) (n % 64) ≡ 1 → Contains (members words) n
  unfolding members
  all_members n lt one = subst (Contains (members words)) (let e : 0 + n ≡ n = omega arith in e) (all_places NUMBERS 0 (joined words) n lt (digit_of n ∙ one))

-- a number of the set
abbrev pub IsMember : List ℕ → ℕ → Type 0
IsMember words n = (n < NUMBERS) × (bit_at (get_or words (n / 64) 0) (n % 64) ≡ 1)

-- The members are the numbers of the set, rising.
pub members_listing : (words : List ℕ) → AreWords words → IsListing ◌<◌ (IsMember words) (members words)
unfolding members
members_listing words small = record {
  only = λ n c. only_members words small n c;
  all = λ n h. all_members words small n h.0 h.1;
  rising = λ i j d lt in_range. places_rise NUMBERS 0 (joined words) i j d lt in_range;
}

pub many_members : (words : List ℕ) → length words ≡ WORDS → AreWords words → length (members words) ≡ count_ones (joined words)
unfolding members
many_members words long small = many_places NUMBERS 0 (joined words) (subst (λ k. joined words < 2 ^ k) (let e : 64 * length words ≡ NUMBERS = omega arith in e) (joined_below words small))

-- a set with just the numbers that have a property
pub listing_of : (P : ℕ → Type 0) (words : List ℕ) → AreWords words → ((n : ℕ) → Contains (members words) n ↔ P n) → IsListing ◌<◌ P (members words)
listing_of P words small is = record {
  only = λ n c. (is n).0 c;
  all = λ n h. (is n).1 h;
  rising = (members_listing words small).rising;
}

-- ---- what sets have in common

-- a word of five
abbrev pub and_all : (a b c d e : ℕ) → ℕ
and_all a b c d e = bit_and (bit_and (bit_and (bit_and a b) c) d) e

-- a digit is one in all
all_ones : (a b c d e r : ℕ) → bit_at (and_all a b c d e) r ≡ min (min (min (min (bit_at a r) (bit_at b r)) (bit_at c r)) (bit_at d r)) (bit_at e r)
all_ones a b c d e r =
    bit_at_and (bit_and (bit_and (bit_and a b) c) d) e r
    ∙ ap (λ n. min n (bit_at e r)) (bit_at_and (bit_and (bit_and a b) c) d r ∙ ap (λ n. min n (bit_at d r)) (bit_at_and (bit_and a b) c r ∙ ap (λ n. min n (bit_at c r)) (bit_at_and a b r)))

module _ (a b c d e r : ℕ) where
  pub one_in_each : bit_at (and_all a b c d e) r ≡ 1 → (bit_at a r ≡ 1) × (bit_at b r ≡ 1) × (bit_at c r ≡ 1) × (bit_at d r ≡ 1) × (bit_at e r ≡ 1)
  one_in_each one =
      let all = all_ones a b c d e r in
      let v = bit_at_lt a r in
      let w = bit_at_lt b r in
      let x = bit_at_lt c r in
      let y = bit_at_lt d r in
      let z = bit_at_lt e r in
      (omega (arith, all, one, v, w, x, y, z), omega (arith, all, one, v, w, x, y, z), omega (arith, all, one, v, w, x, y, z), omega (arith, all, one, v, w, x, y, z), omega (arith, all, one, v, w, x, y, z))

  pub one_in_all : bit_at a r ≡ 1 → bit_at b r ≡ 1 → bit_at c r ≡ 1 → bit_at d r ≡ 1 → bit_at e r ≡ 1 → bit_at (and_all a b c d e) r ≡ 1
  one_in_all v w x y z = let all = all_ones a b c d e r in omega (arith, all, v, w, x, y, z)

pub and_all_le : (a b c d e : ℕ) → and_all a b c d e ≤ a
and_all_le a b c d e =
    let first = and_le_l a b in
    let second = and_le_l (bit_and a b) c in
    let third = and_le_l (bit_and (bit_and a b) c) d in
    let fourth = and_le_l (bit_and (bit_and (bit_and a b) c) d) e in
    omega (arith, first, second, third, fourth)

-- a group's digits in its word
pub bit_of_group : (word shift n : ℕ) → n < 4 → bit_at (bit_and (word / 2 ^ shift) 15) n ≡ bit_at word (shift + n)
bit_of_group word shift n lt =
    let low = bit_at_and (word / 2 ^ shift) 15 n in
    let ones = bit_at_ones 4 n lt in
    let small = bit_at_lt (word / 2 ^ shift) n in
    let e : bit_at (bit_and (word / 2 ^ shift) 15) n ≡ bit_at (word / 2 ^ shift) n = omega (arith, low, ones, small) in
    e ∙ ap (λ m. m % 2) (shr-shr word shift n)

-- The number is in all sets.
abbrev pub InAll : (a b c d e : List ℕ) → ℕ → Type 0
InAll a b c d e n = Contains a n × Contains b n × Contains c n × Contains d n × Contains e n

module _ (a b c d e : List ℕ) (small_a : AreWords a) (small_b : AreWords b) (small_c : AreWords c) (small_d : AreWords d) (small_e : AreWords e) where
  abbrev CommonWord : ℕ → ℕ
  CommonWord k = and_all (get_or a k 0) (get_or b k 0) (get_or c k 0) (get_or d k 0) (get_or e k 0)

  in_all : (n : ℕ) → n < NUMBERS → bit_at (CommonWord (n / 64)) (n % 64) ≡ 1 → InAll (members a) (members b) (members c) (members d) (members e) n
  in_all n lt one =
      let each = one_in_each (get_or a (n / 64) 0) (get_or b (n / 64) 0) (get_or c (n / 64) 0) (get_or d (n / 64) 0) (get_or e (n / 64) 0) (n % 64) one in
      (all_members a small_a n lt each.0, all_members b small_b n lt each.1, all_members c small_c n lt each.2, all_members d small_d n lt each.3, all_members e small_e n lt each.4)

  ones_of_all : (n : ℕ) → InAll (members a) (members b) (members c) (members d) (members e) n → bit_at (CommonWord (n / 64)) (n % 64) ≡ 1
  ones_of_all n h =
      one_in_all (get_or a (n / 64) 0) (get_or b (n / 64) 0) (get_or c (n / 64) 0) (get_or d (n / 64) 0) (get_or e (n / 64) 0) (n % 64)
      (only_members a small_a n h.0).1 (only_members b small_b n h.1).1 (only_members c small_c n h.2).1 (only_members d small_d n h.3).1 (only_members e small_e n h.4).1

  pub common_members : (f : List ℕ) → AreWords f → ((k : ℕ) → get_or f k 0 ≡ CommonWord k) → IsListing ◌<◌ (InAll (members a) (members b) (members c) (members d) (members e)) (members f)
  common_members f small_f is = listing_of (InAll (members a) (members b) (members c) (members d) (members e)) f small_f
      (λ n. (
        λ m. let w = only_members f small_f n m in in_all n w.0 (sym (ap (λ word. bit_at word (n % 64)) (is (n / 64))) ∙ w.1),
        λ h. all_members f small_f n (only_members a small_a n h.0).0 (ap (λ word. bit_at word (n % 64)) (is (n / 64)) ∙ ones_of_all n h),
      ))

  -- the digits of a group in all sets
  pub common_group_members : (group digits : ℕ) → group < GROUPS → digits ≡ bit_and (CommonWord (group / 16) / 2 ^ (4 * (group % 16))) 15 → (n : ℕ) → n < 4 → (bit_at digits n ≡ 1) ↔ InAll (members a) (members b) (members c) (members d) (members e) (4 * group + n)
  common_group_members group digits in_range is n lt =
      let word : group / 16 ≡ (4 * group + n) / 64 = omega (arith, lt) in
      let place : 4 * (group % 16) + n ≡ (4 * group + n) % 64 = omega (arith, lt) in
      let at : bit_at digits n ≡ bit_at (CommonWord ((4 * group + n) / 64)) ((4 * group + n) % 64) = ap (λ m. bit_at m n) is
      ∙ bit_of_group (CommonWord (group / 16)) (4 * (group % 16)) n lt
      ∙ ap (λ k. bit_at (CommonWord k) (4 * (group % 16) + n)) word ∙ ap (bit_at (CommonWord ((4 * group + n) / 64))) place in
      (λ one. in_all (4 * group + n) (omega (arith, in_range, lt)) (sym at ∙ one), λ h. at ∙ ones_of_all (4 * group + n) h)

-- ---- groups of four

-- digits that were moved to a group's place
module _ (digits shift : ℕ) (few : digits < 16) (fits : shift + 4 ≤ 64) where
  abbrev pub Moved : ℕ
  Moved = digits * 2 ^ shift % 2 ^ 64

  whole : Moved ≡ digits * 2 ^ shift + 0
  whole = shl_whole digits 4 shift 64 few (omega arith) ∙ omega arith

  pub moved_inside : (n : ℕ) → bit_at Moved (shift + n) ≡ bit_at digits n
  moved_inside n = ap (λ m. bit_at m (shift + n)) whole ∙ bit_at_cat_high digits shift 0 (shift + n) (pow_pos shift) (omega arith) ∙ ap (bit_at digits) (let e : shift + n - shift ≡ n = omega arith in e)

  pub moved_below : (r : ℕ) → r < shift → bit_at Moved r ≡ 0
  moved_below r lt = ap (λ m. bit_at m r) whole ∙ bit_at_cat_low digits shift 0 r lt ∙ bit_at-zero r

  pub moved_above : (r : ℕ) → shift + 4 ≤ r → bit_at Moved r ≡ 0
  moved_above r le = bit_at_above Moved (4 + shift) r (subst (λ m. m < 2 ^ (4 + shift)) (sym (shl_whole digits 4 shift 64 few (omega arith))) (shl_below digits 4 shift few)) (omega arith)

-- where a number of a group stands
module _ (words : List ℕ) (small : AreWords words) (group : ℕ) (in_range : group < GROUPS) where
  pub group_members : (digits : ℕ) → digits ≡ bit_and (get_or words (group / 16) 0 / 2 ^ (4 * (group % 16))) 15 → IsGroup (members words) group digits
  group_members digits is n lt =
      let at : bit_at digits n ≡ bit_at (get_or words ((4 * group + n) / 64) 0) ((4 * group + n) % 64) = ap (λ d. bit_at d n) is ∙ bit_of_group (get_or words (group / 16) 0) (4 * (group % 16)) n lt ∙ (ap (λ k. bit_at (get_or words k 0) (4 * (group % 16) + n)) (let e : group / 16 ≡ (4 * group + n) / 64 = omega arith in e) ∙ ap (bit_at (get_or words ((4 * group + n) / 64) 0)) (let e : 4 * (group % 16) + n ≡ (4 * group + n) % 64 = omega arith in e)) in
      (λ one. all_members words small (4 * group + n) (omega arith) (sym at ∙ one), λ c. at ∙ (only_members words small (4 * group + n) c).1)

  -- the place of a number in the group's word: in the group, or elsewhere
  in_group_or_not : (n : ℕ) → (n / 4 ≡ group) ⊎ (n / 4 ≢ group)
  in_group_or_not n = ⊎_elim (λ e. inl e.1) (λ ne. inr ne.1) (eqb_tells (n / 4) group)

  module _ (other : List ℕ) (small_other : AreWords other) where
    pub elsewhere : ((k : ℕ) → k ≢ group / 16 → get_or other k 0 ≡ get_or words k 0) → ((r : ℕ) → r < 4 * (group % 16) → bit_at (get_or other (group / 16) 0) r ≡ bit_at (get_or words (group / 16) 0) r) → ((r : ℕ) → 4 * (group % 16) + 4 ≤ r → r < 64 → bit_at (get_or other (group / 16) 0) r ≡ bit_at (get_or words (group / 16) 0) r) →
        (n : ℕ) → n / 4 ≢ group → bit_at (get_or other (n / 64) 0) (n % 64) ≡ bit_at (get_or words (n / 64) 0) (n % 64)
    elsewhere same below above n ne =
        ⊎_elim
        (λ e. subst (λ k. bit_at (get_or other k 0) (n % 64) ≡ bit_at (get_or words k 0) (n % 64)) (sym e.1)
        (⊎_elim (λ lt. below (n % 64) lt) (λ le. above (n % 64) (let here = e.1 in omega (arith, le, here, ne)) (omega arith)) (lt_or_le (n % 64) (4 * (group % 16)))))
        (λ w. ap (λ m. bit_at m (n % 64)) (same (n / 64) w.1))
        (eqb_tells (n / 64) (group / 16))

    module _ (same : (k : ℕ) → k ≢ group / 16 → get_or other k 0 ≡ get_or words k 0) where
      abbrev Shift : ℕ
      Shift = 4 * (group % 16)

      abbrev Word : ℕ
      Word = get_or words (group / 16) 0

      -- a digit of the group's word
      in_word : (ws : List ℕ) (n : ℕ) → n / 4 ≡ group → bit_at (get_or ws (n / 64) 0) (n % 64) ≡ bit_at (get_or ws (group / 16) 0) (Shift + n % 4)
      in_word ws n e =
          ap (λ k. bit_at (get_or ws k 0) (n % 64)) (let at : n / 64 ≡ group / 16 = omega (arith, e) in at) ∙ ap (bit_at (get_or ws (group / 16) 0)) (let at : n % 64 ≡ 4 * (group % 16) + n % 4 = omega (arith, e) in at)

      module _ (digits : ℕ) (few : digits < 16) (is : get_or other (group / 16) 0 ≡ bit_or Word (digits * 2 ^ Shift % 2 ^ 64)) where
        fits_word : Shift + 4 ≤ 64
        fits_word = omega arith

        or_digit : (r : ℕ) → bit_at (get_or other (group / 16) 0) r ≡ max (bit_at Word r) (bit_at (digits * 2 ^ Shift % 2 ^ 64) r)
        or_digit r = ap (λ m. bit_at m r) is ∙ bit_at_or Word (digits * 2 ^ Shift % 2 ^ 64) r

        put_elsewhere : (n : ℕ) → n / 4 ≢ group → bit_at (get_or other (n / 64) 0) (n % 64) ≡ bit_at (get_or words (n / 64) 0) (n % 64)
        put_elsewhere = elsewhere same
            (λ r lt. or_digit r ∙ (let none = moved_below digits Shift few fits_word r lt in omega (arith, none)))
            (λ r le lt. or_digit r ∙ (let none = moved_above digits Shift few fits_word r le in omega (arith, none)))

        put_inside : (n : ℕ) → n / 4 ≡ group → bit_at (get_or other (n / 64) 0) (n % 64) ≡ max (bit_at (get_or words (n / 64) 0) (n % 64)) (bit_at digits (n % 4))
        put_inside n e =
            let here = in_word words n e in
            let there = in_word other n e in
            let either = or_digit (Shift + n % 4) in
            let moved = moved_inside digits Shift few fits_word (n % 4) in
            omega (arith, here, there, either, moved)

        pub put_members : (n : ℕ) → Contains (members other) n ↔ (Contains (members words) n ⊎ ((n / 4 ≡ group) × (bit_at digits (n % 4) ≡ 1)))
        put_members n = (λ c. after (only_members other small_other n c), λ h. before h)
          where
            after : (n < NUMBERS) × (bit_at (get_or other (n / 64) 0) (n % 64) ≡ 1) → Contains (members words) n ⊎ ((n / 4 ≡ group) × (bit_at digits (n % 4) ≡ 1))
            after m =
                ⊎_elim
                (λ e. ⊎_elim
                (λ old. inl (all_members words small n m.0 old.1))
                (λ new. inr (e, let either = put_inside n e in let one = m.1 in let x = bit_at_lt (get_or words (n / 64) 0) (n % 64) in let old = new.1 in omega (arith, either, one, x, old)))
                (eqb_tells (bit_at (get_or words (n / 64) 0) (n % 64)) 1))
                (λ ne. inl (all_members words small n m.0 (sym (put_elsewhere n ne) ∙ m.1)))
                (in_group_or_not n)

            before : Contains (members words) n ⊎ ((n / 4 ≡ group) × (bit_at digits (n % 4) ≡ 1)) → Contains (members other) n
            before (inl c) =
                let m = only_members words small n c in
                all_members other small_other n m.0
                (⊎_elim (λ e. let either = put_inside n e in let one = m.1 in let x = bit_at_lt digits (n % 4) in omega (arith, either, one, x)) (λ ne. put_elsewhere n ne ∙ m.1) (in_group_or_not n))
            before (inr h) =
                let e = h.0 in
                all_members other small_other n (omega (arith, e)) (let either = put_inside n e in let one = h.1 in let x = bit_at_lt (get_or words (n / 64) 0) (n % 64) in omega (arith, either, one, x))

      module _ (is : get_or other (group / 16) 0 ≡ bit_and Word (bit_not w64 (15 * 2 ^ Shift % 2 ^ 64))) where
        fits_word' : Shift + 4 ≤ 64
        fits_word' = omega arith

        kept_digit : (r : ℕ) → r < 64 → bit_at (get_or other (group / 16) 0) r ≡ min (bit_at Word r) (1 - bit_at (15 * 2 ^ Shift % 2 ^ 64) r)
        kept_digit r lt =
            ap (λ m. bit_at m r) is ∙ bit_at_and Word (bit_not w64 (15 * 2 ^ Shift % 2 ^ 64)) r
            ∙ ap (min (bit_at Word r)) (bit_at_not w64 (15 * 2 ^ Shift % 2 ^ 64) r (mod_below (15 * 2 ^ Shift) (2 ^ 64) (omega arith)) lt)

        removed_elsewhere : (n : ℕ) → n / 4 ≢ group → bit_at (get_or other (n / 64) 0) (n % 64) ≡ bit_at (get_or words (n / 64) 0) (n % 64)
        removed_elsewhere = elsewhere same
            (λ r lt. kept_digit r (omega (arith, lt)) ∙ (let none = moved_below 15 Shift (omega arith) fits_word' r lt in let x = bit_at_lt Word r in omega (arith, none, x)))
            (λ r le lt. kept_digit r lt ∙ (let none = moved_above 15 Shift (omega arith) fits_word' r le in let x = bit_at_lt Word r in omega (arith, none, x)))

        removed_inside : (n : ℕ) → n / 4 ≡ group → bit_at (get_or other (n / 64) 0) (n % 64) ≡ 0
        removed_inside n e =
            let there = in_word other n e in
            let kept = kept_digit (Shift + n % 4) (omega arith) in
            let moved = moved_inside 15 Shift (omega arith) fits_word' (n % 4) in
            let one = bit_at_ones 4 (n % 4) (omega arith) in
            omega (arith, there, kept, moved, one)

        pub removed_members : (n : ℕ) → Contains (members other) n ↔ (Contains (members words) n × (n / 4 ≢ group))
        removed_members n = (
          λ c.
              let m = only_members other small_other n c in
              let ne : n / 4 ≢ group = λ e. (let none = removed_inside n e in let one = m.1 in omega (arith, none, one)) in
              (all_members words small n m.0 (sym (removed_elsewhere n ne) ∙ m.1), ne),
          λ h. let m = only_members words small n h.0 in all_members other small_other n m.0 (removed_elsewhere n h.1 ∙ m.1),
        )

-- ---- the least number

pub rising_asymmetric : IsAsymmetric ◌<◌
rising_asymmetric x y p q = omega (arith, p, q)

-- A word's lowest one, where the words before have none, is taken off.
module _ (words other : List ℕ) (small : AreWords words) (small_other : AreWords other) (place digit : ℕ) (in_range : place < WORDS) (digit_in : digit < 64)
    (none_before : (k : ℕ) → k < place → get_or words k 0 ≡ 0) (one : bit_at (get_or words place 0) digit ≡ 1) (lowest : (r : ℕ) → r < digit → bit_at (get_or words place 0) r ≡ 0)
    (same : (k : ℕ) → k ≢ place → get_or other k 0 ≡ get_or words k 0) (cleared : bit_at (get_or other place 0) digit ≡ 0)
    (kept : (r : ℕ) → r < 64 → r ≢ digit → bit_at (get_or other place 0) r ≡ bit_at (get_or words place 0) r) where
  abbrev First : ℕ
  First = 64 * place + digit

  first_digit : (ws : List ℕ) → bit_at (get_or ws (First / 64) 0) (First % 64) ≡ bit_at (get_or ws place 0) digit
  first_digit ws = ap (λ k. bit_at (get_or ws k 0) (First % 64)) (let e : (64 * place + digit) / 64 ≡ place = omega arith in e) ∙ ap (bit_at (get_or ws place 0)) (let e : (64 * place + digit) % 64 ≡ digit = omega arith in e)

  other_digit : (n : ℕ) → n ≢ First → bit_at (get_or other (n / 64) 0) (n % 64) ≡ bit_at (get_or words (n / 64) 0) (n % 64)
  other_digit n ne =
      ⊎_elim
      (λ e. subst (λ k. bit_at (get_or other k 0) (n % 64) ≡ bit_at (get_or words k 0) (n % 64)) (sym e.1) (kept (n % 64) (omega arith) (λ at. let here = e.1 in ne (omega (arith, here, at)))))
      (λ w. ap (λ m. bit_at m (n % 64)) (same (n / 64) w.1))
      (eqb_tells (n / 64) place)

  not_first : (n : ℕ) → IsMember other n → n ≢ First
  not_first n m e = let zero_there = first_digit other in let here = m.1 in omega (arith, ap (λ k. bit_at (get_or other (k / 64) 0) (k % 64)) e, zero_there, here, cleared)

  still : (n : ℕ) → IsMember other n → IsMember words n
  still n m = (m.0, sym (other_digit n (not_first n m)) ∙ m.1)

  above_first : (n : ℕ) → IsMember other n → First < n
  above_first n m =
      ⊎_elim
      (λ lt. absurd (before (still n m).1 lt))
      (λ le. let ne = not_first n m in omega (arith, le, ne))
      (lt_or_le n First)
    where
      before : bit_at (get_or words (n / 64) 0) (n % 64) ≡ 1 → n < First → ⊥
      before is lt =
          ⊎_elim
          (λ e. let here = e.1 in let none = lowest (n % 64) (omega (arith, lt, here)) in omega (arith, sym (ap (λ k. bit_at (get_or words k 0) (n % 64)) here) ∙ is, none))
          (λ w. let ne = w.1 in omega (arith, sym (ap (λ k. bit_at k (n % 64)) (none_before (n / 64) (omega (arith, lt, ne)))) ∙ is, bit_at-zero (n % 64)))
          (eqb_tells (n / 64) place)

  without_first : IsListing ◌<◌ (IsMember words) (First ∷ members other)
  without_first = record {
    only = λ n c.
        ⊎_elim
        (λ e. subst (IsMember words) e (omega arith, first_digit words ∙ one))
        (λ rest. still n (only_members other small_other n rest))
        (in_front ◌<◌ rising_asymmetric First (members other) n c);
    all = λ n m.
        ⊎_elim
        (λ e. (0, omega arith, sym e.1))
        (λ ne. behind First (members other) n (all_members other small_other n m.0 (other_digit n ne.1 ∙ m.1)))
        (eqb_tells n First);
    rising = λ i j d lt in_list. rises_more First (members other) (λ n c. above_first n (only_members other small_other n c)) (members_listing other small_other).rising i j d lt in_list;
  }

  pub first_taken : members words ≡ (64 * place + digit) ∷ members other
  first_taken = same_listing ◌<◌ rising_asymmetric (IsMember words) (members words) (First ∷ members other) (members_listing words small) without_first

-- where no word has a one
pub no_members : (words : List ℕ) → AreWords words → ((k : ℕ) → get_or words k 0 ≡ 0) → members words ≡ []
no_members words small zeros =
    same_listing ◌<◌ rising_asymmetric (IsMember words) (members words) [] (members_listing words small) record {
      only = λ n c. absurd (contains_none n c);
      all = λ n m. absurd (omega (arith, sym (ap (λ w. bit_at w (n % 64)) (zeros (n / 64))) ∙ m.1, bit_at-zero (n % 64)));
      rising = λ i j d lt in_list. absurd (omega (arith, in_list));
    }

-- seven empty words
abbrev pub empty_words : List ℕ
empty_words = replicate WORDS 0

pub no_words : AreWordsOfSet empty_words 0
no_words = record {
  long = refl;
  small = λ i. let e = zeros i in omega (arith, e);
  most = omega arith;
  past = λ i le. zeros i;
}
  where
    zeros : (i : ℕ) → get_or empty_words i 0 ≡ 0
    zeros i = ⊎_elim (λ lt. get_or-replicate WORDS i 0 0 lt) (λ le. get_or_past empty_words i 0 (omega (arith, le))) (lt_or_le i WORDS)

-- ---- words that are written

-- one word is written, which has no ones if it is past the end
pub written_words : (words : List ℕ) (end place word end' : ℕ) → AreWordsOfSet words end → place < WORDS → word < 2 ^ 64 → end ≤ end' → end' ≤ WORDS → (end' ≤ place → word ≡ 0) → AreWordsOfSet (set words place word) end'
written_words words end place word end' is in_range fits more most past = record {
  long = length-set words place word ∙ is.long;
  small = λ i. ⊎_elim (λ e. let at = here i e.1 in omega (arith, at, fits)) (λ ne. let at = there i ne.1 in let old = is.small i in omega (arith, at, old)) (eqb_tells i place);
  most = most;
  past = λ i le. ⊎_elim (λ e. here i e.1 ∙ past (let same = e.1 in omega (arith, le, same))) (λ ne. there i ne.1 ∙ is.past i (omega (arith, le, more))) (eqb_tells i place);
}
  where
    here : (i : ℕ) → i ≡ place → get_or (set words place word) i 0 ≡ word
    here i e = ap (λ k. get_or (set words place word) k 0) e ∙ get_or-set_same words place word 0 (let long = is.long in omega (arith, long, in_range))

    there : (i : ℕ) → i ≢ place → get_or (set words place word) i 0 ≡ get_or words i 0
    there i ne = get_or-set_other words place i word 0 ne

-- words that are made of those of a set, up to its end
pub record AreMade (word : ℕ → ℕ) (end : ℕ) (words : List ℕ) : Type 0 where
  pub each : (k : ℕ) → get_or words k 0 ≡ word k
  pub of_set : AreWordsOfSet words end

-- They have no ones but where the set has, and none are left behind.
pub are_made : (word : ℕ → ℕ) (end : ℕ) (first words : List ℕ) (i : ℕ) → AreWordsOfSet first end → ((k : ℕ) → word k ≤ get_or first k 0) → length words ≡ WORDS → end ≤ i →
    ((k : ℕ) → k < i → get_or words k 0 ≡ word k) → ((k : ℕ) → i ≤ k → get_or words k 0 ≤ get_or first k 0) → AreMade word end words
are_made word end first words i is few long all done rest = record {
  each = each;
  of_set = record {
    long = long;
    small = λ k. let at = each k in let least = few k in let old = is.small k in omega (arith, at, least, old);
    most = is.most;
    past = λ k le. let at = each k in let least = few k in let none = is.past k le in omega (arith, at, least, none);
  };
}
  where
    each : (k : ℕ) → get_or words k 0 ≡ word k
    each k =
        ⊎_elim
        (λ lt. done k lt)
        (λ le.
        let none = is.past k (omega (arith, le, all)) in
        let left = rest k le in
        let least = few k in
        omega (arith, none, left, least))
        (lt_or_le k i)

joined_zeros : (words : List ℕ) → ((i : ℕ) → get_or words i 0 ≡ 0) → joined words ≡ 0
unfolding joined
joined_zeros [] zeros = refl
joined_zeros (word ∷ words) zeros = let first = zeros 0 in let rest = joined_zeros words (λ i. zeros (suc i)) in omega (arith, first, rest)

joined_to_end : (words : List ℕ) (end : ℕ) → ((i : ℕ) → end ≤ i → get_or words i 0 ≡ 0) → joined (take end words) ≡ joined words
unfolding joined
joined_to_end words zero past = sym (joined_zeros words (λ i. past i (omega arith)))
joined_to_end [] (suc end) past = refl
joined_to_end (word ∷ words) (suc end) past = let rest = joined_to_end words end (λ i le. past (suc i) (omega arith)) in omega (arith, rest)

-- the words up to the end have all ones
pub ones_to_end : (words : List ℕ) (end : ℕ) → AreWordsOfSet words end → count_ones (joined (take end words)) ≡ length (members words)
ones_to_end words end is = ap count_ones (joined_to_end words end is.past) ∙ sym (many_members words is.long is.small)

small_front : (n : ℕ) (words : List ℕ) → AreWords words → AreWords (take n words)
small_front n words small i =
    ⊎_elim
    (λ lt. let at = get_or-take n words i 0 lt in let old = small i in omega (arith, at, old))
    (λ le. let none = get_or_past (take n words) i 0 (omega (arith, length-take n words, le)) in omega (arith, none))
    (lt_or_le i n)

-- the ones of the words before a place, and of one word more
module _ (words : List ℕ) (end i : ℕ) (is : AreWordsOfSet words end) where
  pub ones_before : i < length (take end words) → count_ones (joined (take (i + 1) (take end words))) ≡ count_ones (joined (take i (take end words))) + count_ones (get_or (take end words) i 0)
  ones_before lt =
      ap (λ ws. count_ones (joined ws)) (take_more (take end words) i 0 lt)
      ∙ (let more = ones_push (take i (take end words)) (get_or (take end words) i 0) (small_front i (take end words) (small_front end words is.small)) in omega (arith, more))

  pub few_ones : count_ones (get_or (take end words) i 0) ≤ 64
  few_ones = ones-le 64 (get_or (take end words) i 0) (small_front end words is.small i)

-- ---- what a write makes of a set

-- a lowest one is taken off
module _ (words : List ℕ) (end place : ℕ) (is : AreWordsOfSet words end) (in_range : place < end) (none_before : (k : ℕ) → k < place → get_or words k 0 ≡ 0) (some : get_or words place 0 ≢ 0) where
  abbrev Lowest : ℕ
  Lowest = get_or words place 0

  abbrev Zeros : ℕ
  Zeros = trailing_zeros w64 Lowest

  abbrev Cleared : ℕ
  Cleared = bit_and Lowest (bit_not w64 (1 * 2 ^ Zeros % 2 ^ 64))

  lowest_one : (Zeros < 64) × (bit_at Lowest Zeros ≡ 1) × ((i : ℕ) → i < Zeros → bit_at Lowest i ≡ 0)
  lowest_one = bit_at-trailing_zeros w64 Lowest (omega (arith, some)) (is.small place)

  pub words_left : AreWordsOfSet (set words place Cleared) end
  words_left =
      let few = and_le_l Lowest (bit_not w64 (1 * 2 ^ Zeros % 2 ^ 64)) in
      let old = is.small place in
      let most = is.most in
      written_words words end place Cleared end is (omega (arith, in_range, most)) (omega (arith, few, old)) (omega arith) most (λ le. absurd (omega (arith, le, in_range)))

  pub least_taken : members words ≡ (64 * place + Zeros) ∷ members (set words place Cleared)
  least_taken =
      let most = is.most in
      let long = is.long in
      let at : get_or (set words place Cleared) place 0 ≡ Cleared = get_or-set_same words place Cleared 0 (omega (arith, long, in_range, most)) in
      first_taken words (set words place Cleared) is.small words_left.small place Zeros (omega (arith, in_range, most)) lowest_one.0 none_before lowest_one.1 lowest_one.2
      (λ k ne. get_or-set_other words place k Cleared 0 ne)
      (ap (λ w. bit_at w Zeros) at ∙ bit_at_clear_same w64 Lowest Zeros lowest_one.0)
      (λ r lt ne. ap (λ w. bit_at w r) at ∙ bit_at_clear_other w64 Lowest Zeros lowest_one.0 r lt ne)

-- nothing is taken off where no word up to the end has a one
pub nothing_left : (words : List ℕ) (end i : ℕ) → AreWordsOfSet words end → end ≤ i → ((k : ℕ) → k < i → get_or words k 0 ≡ 0) → members words ≡ []
nothing_left words end i is all none = no_members words is.small (λ k. ⊎_elim (λ lt. none k lt) (λ le. is.past k (omega (arith, le, all))) (lt_or_le k i))

-- a group is put in
module _ (words : List ℕ) (end group digits : ℕ) (is : AreWordsOfSet words end) (in_range : group < GROUPS) (few : digits < 16) where
  abbrev Joined : ℕ
  Joined = bit_or (get_or words (group / 16) 0) (digits * 2 ^ (4 * (group % 16)) % 2 ^ 64)

  pub words_with_group : (end' : ℕ) → end' ≡ max end (group / 16 + 1) → AreWordsOfSet (set words (group / 16) Joined) end'
  words_with_group end' more =
      let most = is.most in
      written_words words end (group / 16) Joined end' is (omega arith) (or_lt 64 (get_or words (group / 16) 0) (digits * 2 ^ (4 * (group % 16)) % 2 ^ 64) (is.small (group / 16)) (mod_below (digits * 2 ^ (4 * (group % 16))) (2 ^ 64) (omega arith)))
      (omega (arith, more)) (omega (arith, more, most)) (λ le. absurd (omega (arith, le, more)))

  pub group_put : (end' : ℕ) → end' ≡ max end (group / 16 + 1) → IsListing ◌<◌ (λ n. Contains (members words) n ⊎ ((n / 4 ≡ group) × (bit_at digits (n % 4) ≡ 1))) (members (set words (group / 16) Joined))
  group_put end' more =
      let long = is.long in
      listing_of _ (set words (group / 16) Joined) (words_with_group end' more).small (put_members words is.small group in_range (set words (group / 16) Joined) (words_with_group end' more).small
      (λ k ne. get_or-set_other words (group / 16) k Joined 0 ne) digits few (get_or-set_same words (group / 16) Joined 0 (omega (arith, long))))

-- a group is taken off
module _ (words : List ℕ) (end group : ℕ) (is : AreWordsOfSet words end) (in_range : group < GROUPS) where
  abbrev Kept : ℕ
  Kept = bit_and (get_or words (group / 16) 0) (bit_not w64 (15 * 2 ^ (4 * (group % 16)) % 2 ^ 64))

  pub words_without_group : AreWordsOfSet (set words (group / 16) Kept) end
  words_without_group =
      let few = and_le_l (get_or words (group / 16) 0) (bit_not w64 (15 * 2 ^ (4 * (group % 16)) % 2 ^ 64)) in
      let old = is.small (group / 16) in
      written_words words end (group / 16) Kept end is (omega arith) (omega (arith, few, old)) (omega arith) is.most (λ le. let none = is.past (group / 16) le in omega (arith, few, none))

  pub group_removed : IsListing ◌<◌ (λ n. Contains (members words) n × (n / 4 ≢ group)) (members (set words (group / 16) Kept))
  group_removed =
      let long = is.long in
      listing_of _ (set words (group / 16) Kept) words_without_group.small (removed_members words is.small group in_range (set words (group / 16) Kept) words_without_group.small
      (λ k ne. get_or-set_other words (group / 16) k Kept 0 ne) (get_or-set_same words (group / 16) Kept 0 (omega (arith, long))))
