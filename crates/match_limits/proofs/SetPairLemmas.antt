-- What sets of numbers have together, and the next number that they have together.
use Rattle.std.proofs.Common.{◌≡◌, ◌≢◌, ◌<◌, ◌≤◌, ◌+◌, ◌-◌, ◌*◌, ◌/◌, ◌%◌, ◌^◌, ℕ, List, Contains, get_or, min, bit_and, arith, ap, sym, ◌∙◌, ⊎_elim}
use Rattle.std.specs.Int.{bit_at, bit_not, trailing_zeros, w64}
use Rattle.std.proofs.lemmas.Bool.Decides.{eqb_tells}
use Rattle.std.proofs.lemmas.Nat.{and_le_l}
use Rattle.std.proofs.lemmas.Nat.Bits.{bit_at_and, bit_at_not, bit_at_ones, bit_at-lt as bit_at_lt, bit_at-zero, bit_at-trailing_zeros, ones_shl, bit_at_mask_inside, bit_at_mask_below}
use Rattle.match_limits.specs.Listing.{IsListing}
use Rattle.match_limits.specs.First.{IsLeast}
use Rattle.match_limits.proofs.Listings.{lt_or_le}
use Rattle.match_limits.specs.declared.number_sets.TheConstants.{NUMBERS}
use Rattle.match_limits.specs.NumberSets.{members, AreWordsOfSet}
use Rattle.match_limits.proofs.NumberSetLemmas.{AreWords, only_members, all_members, listing_of}

-- ---- what is in both sets

module _ (a b r : ℕ) where
  pub one_in_both : bit_at (bit_and a b) r ≡ 1 → (bit_at a r ≡ 1) × (bit_at b r ≡ 1)
  one_in_both one =
      let each = bit_at_and a b r in
      let x = bit_at_lt a r in
      let y = bit_at_lt b r in
      (omega (arith, each, one, x, y), omega (arith, each, one, x, y))

  pub both_are_one : bit_at a r ≡ 1 → bit_at b r ≡ 1 → bit_at (bit_and a b) r ≡ 1
  both_are_one x y = let each = bit_at_and a b r in omega (arith, each, x, y)

pub both_members : (a b f : List ℕ) → AreWords a → AreWords b → AreWords f → ((k : ℕ) → get_or f k 0 ≡ bit_and (get_or a k 0) (get_or b k 0)) →
    IsListing ◌<◌ (λ n. Contains (members a) n × Contains (members b) n) (members f)
both_members a b f small_a small_b small_f is =
    listing_of (λ n. Contains (members a) n × Contains (members b) n) f small_f
    (λ n. (
      λ m.
          let w = only_members f small_f n m in
          let ones = one_in_both (get_or a (n / 64) 0) (get_or b (n / 64) 0) (n % 64) (sym (digit n) ∙ w.1) in
          (all_members a small_a n w.0 ones.0, all_members b small_b n w.0 ones.1),
      λ h.
          let v = only_members a small_a n h.0 in
          let w = only_members b small_b n h.1 in
          all_members f small_f n v.0 (digit n ∙ both_are_one (get_or a (n / 64) 0) (get_or b (n / 64) 0) (n % 64) v.1 w.1),
    ))
  where
    digit : (n : ℕ) → bit_at (get_or f (n / 64) 0) (n % 64) ≡ bit_at (bit_and (get_or a (n / 64) 0) (get_or b (n / 64) 0)) (n % 64)
    digit n = ap (λ w. bit_at w (n % 64)) (is (n / 64))

-- ---- what is in the first and the last set and not in the second

abbrev pub word_without : (a b c : ℕ) → ℕ
word_without a b c = bit_and (bit_and a (bit_not w64 b)) c

pub word_without_le : (a b c : ℕ) → word_without a b c ≤ a
word_without_le a b c =
    let first = and_le_l a (bit_not w64 b) in
    let second = and_le_l (bit_and a (bit_not w64 b)) c in
    omega (arith, first, second)

module _ (a b c r : ℕ) (small : b < 2 ^ 64) (lt : r < 64) where
  digit_without : bit_at (word_without a b c) r ≡ min (min (bit_at a r) (1 - bit_at b r)) (bit_at c r)
  digit_without =
      bit_at_and (bit_and a (bit_not w64 b)) c r
      ∙ ap (λ n. min n (bit_at c r)) (bit_at_and a (bit_not w64 b) r ∙ ap (min (bit_at a r)) (bit_at_not w64 b r small lt))

  one_without : bit_at (word_without a b c) r ≡ 1 → (bit_at a r ≡ 1) × (bit_at b r ≡ 0) × (bit_at c r ≡ 1)
  one_without one =
      let each = digit_without in
      let x = bit_at_lt a r in
      let y = bit_at_lt b r in
      let z = bit_at_lt c r in
      (omega (arith, each, one, x, y, z), omega (arith, each, one, x, y, z), omega (arith, each, one, x, y, z))

  without_is_one : bit_at a r ≡ 1 → bit_at b r ≡ 0 → bit_at c r ≡ 1 → bit_at (word_without a b c) r ≡ 1
  without_is_one x y z = let each = digit_without in omega (arith, each, x, y, z)

pub without_members : (a b c f : List ℕ) → AreWords a → AreWords b → AreWords c → AreWords f → ((k : ℕ) → get_or f k 0 ≡ word_without (get_or a k 0) (get_or b k 0) (get_or c k 0)) →
    IsListing ◌<◌ (λ n. Contains (members a) n × (Contains (members b) n → ⊥) × Contains (members c) n) (members f)
without_members a b c f small_a small_b small_c small_f is =
    listing_of (λ n. Contains (members a) n × (Contains (members b) n → ⊥) × Contains (members c) n) f small_f
    (λ n. (
      λ m.
          let w = only_members f small_f n m in
          let ones = one_without (get_or a (n / 64) 0) (get_or b (n / 64) 0) (get_or c (n / 64) 0) (n % 64) (small_b (n / 64)) (omega arith) (sym (digit n) ∙ w.1) in (
            all_members a small_a n w.0 ones.0,
            λ other. let one = (only_members b small_b n other).1 in let none = ones.1 in omega (arith, one, none),
            all_members c small_c n w.0 ones.2,
          ),
      λ h.
          let v = only_members a small_a n h.0 in
          let w = only_members c small_c n h.2 in
          let none : bit_at (get_or b (n / 64) 0) (n % 64) ≡ 0 = ⊎_elim
          (λ e. absurd (h.1 (all_members b small_b n v.0 e.1)))
          (λ ne. let other = ne.1 in let y = bit_at_lt (get_or b (n / 64) 0) (n % 64) in omega (arith, other, y))
          (eqb_tells (bit_at (get_or b (n / 64) 0) (n % 64)) 1) in
          all_members f small_f n v.0
          (digit n ∙ without_is_one (get_or a (n / 64) 0) (get_or b (n / 64) 0) (get_or c (n / 64) 0) (n % 64) (small_b (n / 64)) (omega arith) v.1 none w.1),
    ))
  where
    digit : (n : ℕ) → bit_at (get_or f (n / 64) 0) (n % 64) ≡ bit_at (word_without (get_or a (n / 64) 0) (get_or b (n / 64) 0) (get_or c (n / 64) 0)) (n % 64)
    digit n = ap (λ w. bit_at w (n % 64)) (is (n / 64))

-- ---- the next number in both sets

-- The ones of the mask are the places in the word from a number on.
abbrev pub IsMask : (mask from i : ℕ) → Type 0
IsMask mask from i = (r : ℕ) → r < 64 → (from ≤ 64 * i + r → bit_at mask r ≡ 1) × (bit_at mask r ≡ 1 → from ≤ 64 * i + r)

pub first_mask : (from i : ℕ) → i ≡ from / 64 → IsMask ((2 ^ 64 - 1) * 2 ^ (from % 64) % 2 ^ 64) from i
first_mask from i e r lt =
    let is = ap (λ m. bit_at m r) (ones_shl 64 (from % 64) (omega arith)) in (
      λ le. is ∙ bit_at_mask_inside (from % 64) 64 r (omega (arith, e, le)) lt,
      λ one.
          ⊎_elim
          (λ below. absurd (let none = bit_at_mask_below (from % 64) 64 r below in omega (arith, sym is ∙ one, none)))
          (λ above. omega (arith, e, above))
          (lt_or_le r (from % 64)),
    )

pub next_mask : (from i : ℕ) → from / 64 ≤ i → IsMask (2 ^ 64 - 1) from (i + 1)
next_mask from i le r lt = (λ above. bit_at_ones 64 r lt, λ one. omega (arith, le))

-- No number from this one on is in both sets before the word.
abbrev pub NoneInBoth : (a b : List ℕ) (from i : ℕ) → Type 0
NoneInBoth a b from i =
    (n : ℕ) → n / 64 < i → from ≤ n → bit_at (get_or a (n / 64) 0) (n % 64) ≡ 1 → bit_at (get_or b (n / 64) 0) (n % 64) ≡ 1 → ⊥

pub none_at_first : (a b : List ℕ) (from i : ℕ) → i ≡ from / 64 → NoneInBoth a b from i
none_at_first a b from i e n lt le one other = omega (arith, e, lt, le)

module _ (a b : List ℕ) (end : ℕ) (is_a : AreWordsOfSet a end) (small_b : AreWords b) (from i : ℕ) (none : NoneInBoth a b from i) where
  -- where there are no further words
  pub none_in_both : end ≤ i → (n : ℕ) → Contains (members a) n → Contains (members b) n → from ≤ n → ⊥
  none_in_both past n in_a in_b le =
      let one = (only_members a is_a.small n in_a).1 in
      ⊎_elim
      (λ lt. none n lt le one (only_members b small_b n in_b).1)
      (λ behind.
      let empty = is_a.past (n / 64) (omega (arith, past, behind)) in
      omega (arith, sym (ap (λ w. bit_at w (n % 64)) empty) ∙ one, bit_at-zero (n % 64)))
      (lt_or_le (n / 64) i)

  module _ (mask : ℕ) (in_range : i < end) (is : IsMask mask from i) where
    abbrev pub MaskedWord : ℕ
    MaskedWord = bit_and (bit_and (get_or a i 0) (get_or b i 0)) mask

    masked_digit : (r : ℕ) → bit_at MaskedWord r ≡ min (min (bit_at (get_or a i 0) r) (bit_at (get_or b i 0) r)) (bit_at mask r)
    masked_digit r = bit_at_and (bit_and (get_or a i 0) (get_or b i 0)) mask r ∙ ap (λ n. min n (bit_at mask r)) (bit_at_and (get_or a i 0) (get_or b i 0) r)

    -- a number in both sets, with its place in this word
    one_there : (n : ℕ) → n / 64 ≡ i → from ≤ n → bit_at (get_or a (n / 64) 0) (n % 64) ≡ 1 → bit_at (get_or b (n / 64) 0) (n % 64) ≡ 1 → bit_at MaskedWord (n % 64) ≡ 1
    one_there n e le one other =
        let x = sym (ap (λ k. bit_at (get_or a k 0) (n % 64)) e) ∙ one in
        let y = sym (ap (λ k. bit_at (get_or b k 0) (n % 64)) e) ∙ other in
        let z = (is (n % 64) (omega arith)).0 (omega (arith, e, le)) in
        let each = masked_digit (n % 64) in
        omega (arith, x, y, z, each)

    -- where this word has none
    pub none_more : MaskedWord ≡ 0 → NoneInBoth a b from (i + 1)
    none_more empty n lt le one other =
        ⊎_elim
        (λ e. let there = one_there n e.1 le one other in omega (arith, sym (ap (λ w. bit_at w (n % 64)) empty) ∙ there, bit_at-zero (n % 64)))
        (λ ne. let elsewhere = ne.1 in none n (omega (arith, lt, elsewhere)) le one other)
        (eqb_tells (n / 64) i)

    module _ (digit : ℕ) (digit_in : digit < 64) (one : bit_at MaskedWord digit ≡ 1) (lowest : (r : ℕ) → r < digit → bit_at MaskedWord r ≡ 0) where
      abbrev Next : ℕ
      Next = 64 * i + digit

      at_next : (ws : List ℕ) → bit_at (get_or ws i 0) digit ≡ 1 → bit_at (get_or ws (Next / 64) 0) (Next % 64) ≡ 1
      at_next ws is_one =
          ap (λ k. bit_at (get_or ws k 0) (Next % 64)) (let e : (64 * i + digit) / 64 ≡ i = omega arith in e)
          ∙ ap (bit_at (get_or ws i 0)) (let e : (64 * i + digit) % 64 ≡ digit = omega arith in e)
          ∙ is_one

      few_next : Next < NUMBERS
      few_next = let most = is_a.most in omega (arith, most, in_range, digit_in)

      not_before : (n : ℕ) → n < Next → Contains (members a) n → Contains (members b) n → from ≤ n → ⊥
      not_before n lt in_a in_b le =
          let one_a = (only_members a is_a.small n in_a).1 in
          let one_b = (only_members b small_b n in_b).1 in
          ⊎_elim
          (λ e.
          let here = e.1 in
          let there = one_there n here le one_a one_b in
          let zero = lowest (n % 64) (omega (arith, lt, here)) in
          omega (arith, there, zero))
          (λ ne. let elsewhere = ne.1 in none n (omega (arith, lt, elsewhere)) le one_a one_b)
          (eqb_tells (n / 64) i)

      least_next : IsLeast (λ n. Contains (members a) n × Contains (members b) n × (from ≤ n)) Next
      least_next =
          let each = masked_digit digit in
          let x = bit_at_lt (get_or a i 0) digit in
          let y = bit_at_lt (get_or b i 0) digit in
          let z = bit_at_lt mask digit in
          record {
            holds = (
              all_members a is_a.small Next few_next (at_next a (omega (arith, each, one, x, y, z))),
              all_members b small_b Next few_next (at_next b (omega (arith, each, one, x, y, z))),
              (is digit digit_in).1 (omega (arith, each, one, x, y, z)),
            );
            least = λ n h. ⊎_elim (λ lt. absurd (not_before n lt h.0 h.1 h.2)) (λ le. le) (lt_or_le n Next);
          }

    -- where this word has one
    module _ (some : MaskedWord ≢ 0) where
      lowest_masked : (trailing_zeros w64 MaskedWord < 64) × (bit_at MaskedWord (trailing_zeros w64 MaskedWord) ≡ 1) × ((r : ℕ) → r < trailing_zeros w64 MaskedWord → bit_at MaskedWord r ≡ 0)
      lowest_masked =
          let old = is_a.small i in
          let first = and_le_l (get_or a i 0) (get_or b i 0) in
          let second = and_le_l (bit_and (get_or a i 0) (get_or b i 0)) mask in
          bit_at-trailing_zeros w64 MaskedWord (omega (arith, some)) (omega (arith, old, first, second))

      pub next_few : 64 * i + trailing_zeros w64 MaskedWord < NUMBERS
      next_few = few_next (trailing_zeros w64 MaskedWord) lowest_masked.0 lowest_masked.1 lowest_masked.2

      pub next_found : IsLeast (λ n. Contains (members a) n × Contains (members b) n × (from ≤ n)) (64 * i + trailing_zeros w64 MaskedWord)
      next_found = least_next (trailing_zeros w64 MaskedWord) lowest_masked.0 lowest_masked.1 lowest_masked.2
