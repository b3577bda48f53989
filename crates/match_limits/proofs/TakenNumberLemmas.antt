-- The numbers of a set, taken one after the other, and single numbers that are put in and taken off.
use Rattle.std.proofs.Common.{◌≡◌, ◌≢◌, ◌⊎◌, ◌<◌, ◌≤◌, ◌+◌, ◌-◌, ◌*◌, ◌/◌, ◌%◌, ◌^◌, ℕ, zero, suc, List, [], ◌∷◌, ◌++◌, Contains, length, length-append, replicate, set, drop, get_or, max, bit_and, bit_or, arith, refl, ap, sym, ◌∙◌, subst, inl, inr, ⊎_elim}
use Rattle.std.specs.Int.{bit_at, bit_not, trailing_zeros, w64}
use Rattle.std.proofs.lemmas.Bool.Decides.{eqb_tells}
use Rattle.std.proofs.lemmas.List.{get_or_append_left, get_or_past, get_or-replicate, get_or-set_same, get_or-set_other, length-replicate, length-drop, get_or-drop, drop_more}
use Rattle.std.proofs.lemmas.Nat.{and_le_l, or_lt, mod_below}
use Rattle.std.proofs.lemmas.Nat.Bits.{bit_at_set_same, bit_at_set_other, bit_at_clear_same, bit_at_clear_other}
use Rattle.match_limits.specs.Listing.{IsListing}
use Rattle.match_limits.proofs.Listings.{lt_or_le}
use Rattle.match_limits.specs.NumberSets.{members, words_from, AreWordsOfSet, AreWordsFrom}
use Rattle.match_limits.specs.declared.number_sets.TheConstants.{WORDS, NUMBERS}
use Rattle.match_limits.proofs.NumberSetLemmas.{AreWords, only_members, all_members, listing_of, members_listing, least_taken, no_members, written_words}

-- ---- words of which the first are done with

-- one word is left at the place
left_at : (place word : ℕ) (rest : List ℕ) → get_or (replicate place 0 ++ word ∷ rest) place 0 ≡ word
left_at zero word rest = refl
left_at (suc place) word rest = left_at place word rest

left_after : (place word : ℕ) (rest : List ℕ) (k : ℕ) → get_or (replicate place 0 ++ word ∷ rest) (place + 1 + k) 0 ≡ get_or rest k 0
left_after zero word rest k = ap (λ n. get_or (word ∷ rest) n 0) (let e : zero + 1 + k ≡ suc k = omega arith in e)
left_after (suc place) word rest k = ap (λ n. get_or (0 ∷ (replicate place 0 ++ word ∷ rest)) n 0) (let e : suc place + 1 + k ≡ suc (place + 1 + k) = omega arith in e) ∙ left_after place word rest k

left_set : (place word other : ℕ) (rest : List ℕ) → set (replicate place 0 ++ word ∷ rest) place other ≡ replicate place 0 ++ other ∷ rest
left_set zero word other rest = refl
left_set (suc place) word other rest = ap (λ xs. 0 ∷ xs) (left_set place word other rest)

left_skip : (place word : ℕ) (rest : List ℕ) → replicate place 0 ++ 0 ∷ word ∷ rest ≡ replicate (suc place) 0 ++ word ∷ rest
left_skip zero word rest = refl
left_skip (suc place) word rest = ap (λ xs. 0 ∷ xs) (left_skip place word rest)

module _ (words : List ℕ) (end place word : ℕ) (are : AreWordsFrom words end place word) where
  abbrev Left : List ℕ
  Left = words_from words place word

  before_place : (k : ℕ) → k < place → get_or Left k 0 ≡ 0
  before_place k lt = get_or_append_left (replicate place 0) (word ∷ drop (place + 1) words) 0 k (omega (arith, lt, length-replicate {A = ℕ} place 0)) ∙ get_or-replicate place k 0 0 lt

  at_place : get_or Left place 0 ≡ word
  at_place = left_at place word (drop (place + 1) words)

  past_place : (k : ℕ) → place < k → get_or Left k 0 ≡ get_or words k 0
  past_place k lt =
      let e : place + 1 + (k - (place + 1)) ≡ k = omega (arith, lt) in
      ap (λ n. get_or Left n 0) (sym e) ∙ left_after place word (drop (place + 1) words) (k - (place + 1)) ∙ get_or-drop (place + 1) words (k - (place + 1)) 0 ∙ ap (λ n. get_or words n 0) e

  long_left : length Left ≡ WORDS
  long_left =
      let long = are.set.long in
      let in_range = are.in_range in
      omega (arith, length-append (replicate place 0) (word ∷ drop (place + 1) words), length-replicate {A = ℕ} place 0, length-drop (place + 1) words, long, in_range)

  each_small : AreWords Left
  each_small k =
      ⊎_elim
      (λ lt. let none = before_place k lt in omega (arith, none))
      (λ le. ⊎_elim
      (λ e. let small = are.small in let at = ap (λ n. get_or Left n 0) e.1 ∙ at_place in omega (arith, at, small))
      (λ ne. let other = ne.1 in let same = past_place k (omega (arith, le, other)) in let small = are.set.small k in omega (arith, same, small))
      (eqb_tells k place))
      (lt_or_le k place)

  left_of_set : AreWordsOfSet Left WORDS
  left_of_set = record {
    long = long_left;
    small = each_small;
    most = omega arith;
    past = λ k le. get_or_past Left k 0 (let long = long_left in omega (arith, long, le));
  }

  -- A word without ones is passed.
  pub word_passed : word ≡ 0 → place + 1 < end → Left ≡ words_from words (place + 1) (get_or words (place + 1) 0)
  word_passed none lt =
      let long = are.set.long in
      let most = are.set.most in
      ap (λ w. replicate place 0 ++ w ∷ drop (place + 1) words) none
      ∙ ap (λ xs. replicate place 0 ++ 0 ∷ xs) (drop_more words (place + 1) 0 (omega (arith, long, most, lt)))
      ∙ left_skip place (get_or words (place + 1) 0) (drop (place + 1 + 1) words)
      ∙ ap (λ n. replicate n 0 ++ get_or words (place + 1) 0 ∷ drop (place + 1 + 1) words) (let e : suc place ≡ place + 1 = omega arith in e)

  pub passed_words : place + 1 < end → AreWordsFrom words end (place + 1) (get_or words (place + 1) 0)
  passed_words lt = record { set = are.set; small = are.set.small (place + 1); in_range = let most = are.set.most in omega (arith, most, lt) }

  -- No number is left behind the last word.
  pub none_left : word ≡ 0 → end ≤ place + 1 → members Left ≡ []
  none_left none le =
      no_members Left each_small
      (λ k. ⊎_elim
      (λ lt. before_place k lt)
      (λ past. ⊎_elim
      (λ e. ap (λ n. get_or Left n 0) e.1 ∙ at_place ∙ none)
      (λ ne. let other = ne.1 in past_place k (omega (arith, past, other)) ∙ are.set.past k (omega (arith, past, other, le)))
      (eqb_tells k place))
      (lt_or_le k place))

  module _ (some : word ≢ 0) where
    abbrev Cleared : ℕ
    Cleared = bit_and word (bit_not w64 (1 * 2 ^ trailing_zeros w64 word % 2 ^ 64))

    pub cleared_words : AreWordsFrom words end place Cleared
    cleared_words = record {
      set = are.set;
      small = let few = and_le_l word (bit_not w64 (1 * 2 ^ trailing_zeros w64 word % 2 ^ 64)) in let small = are.small in omega (arith, few, small);
      in_range = are.in_range;
    }

    -- The lowest one of the word is the least number.
    pub first_left : members Left ≡ (64 * place + trailing_zeros w64 word) ∷ members (words_from words place Cleared)
    first_left =
        subst (λ w. members Left ≡ (64 * place + trailing_zeros w64 w) ∷ members (set Left place (bit_and w (bit_not w64 (1 * 2 ^ trailing_zeros w64 w % 2 ^ 64))))) at_place
        (least_taken Left WORDS place left_of_set are.in_range before_place (λ e. some (sym at_place ∙ e)))
        ∙ ap (λ xs. (64 * place + trailing_zeros w64 word) ∷ members xs) (left_set place word Cleared (drop (place + 1) words))

  -- Numbers that are left rise.
  pub left_above : (n : ℕ) (rest : List ℕ) → members Left ≡ n ∷ rest → (other : ℕ) → Contains rest other → n < other
  left_above n rest e other c =
      let rising = subst (λ xs. (i j d : ℕ) → i < j → j < length xs → get_or xs i d < get_or xs j d) e (members_listing Left each_small).rising in
      let lt = rising 0 (suc c.0) other (omega arith) (omega (arith, c.1)) in
      let at = c.2 in
      omega (arith, lt, at)

pub all_left : (words : List ℕ) → length words ≡ WORDS → words_from words 0 (get_or words 0 0) ≡ words
all_left [] long = absurd (omega (arith, long))
all_left (word ∷ words) long = refl

-- ---- one number

module _ (words : List ℕ) (end n : ℕ) (is : AreWordsOfSet words end) (in_range : n < NUMBERS) where
  -- a digit of a set in which one word was written
  module _ (word : ℕ) where
    written_digit : (m : ℕ) → m / 64 ≡ n / 64 → bit_at (get_or (set words (n / 64) word) (m / 64) 0) (m % 64) ≡ bit_at word (m % 64)
    written_digit m e =
        let long = is.long in
        ap (λ k. bit_at (get_or (set words (n / 64) word) k 0) (m % 64)) e ∙ ap (λ w. bit_at w (m % 64)) (get_or-set_same words (n / 64) word 0 (omega (arith, long, in_range)))

    other_digit : ((r : ℕ) → r < 64 → r ≢ n % 64 → bit_at word r ≡ bit_at (get_or words (n / 64) 0) r) → (m : ℕ) → m ≢ n → bit_at (get_or (set words (n / 64) word) (m / 64) 0) (m % 64) ≡ bit_at (get_or words (m / 64) 0) (m % 64)
    other_digit same m ne =
        ⊎_elim
        (λ e. let here = e.1 in written_digit m here ∙ same (m % 64) (omega arith) (λ at. ne (omega (arith, here, at))) ∙ ap (λ k. bit_at (get_or words k 0) (m % 64)) (sym here))
        (λ w. ap (λ x. bit_at x (m % 64)) (get_or-set_other words (n / 64) (m / 64) word 0 w.1))
        (eqb_tells (m / 64) (n / 64))

  -- the number is put in
  abbrev With : ℕ
  With = bit_or (get_or words (n / 64) 0) (1 * 2 ^ (n % 64) % 2 ^ 64)

  pub words_with : (end' : ℕ) → end' ≡ max end (n / 64 + 1) → AreWordsOfSet (set words (n / 64) With) end'
  words_with end' more =
      let most = is.most in
      written_words words end (n / 64) With end' is (omega (arith, in_range)) (or_lt 64 (get_or words (n / 64) 0) (1 * 2 ^ (n % 64) % 2 ^ 64) (is.small (n / 64)) (mod_below (1 * 2 ^ (n % 64)) (2 ^ 64) (omega arith)))
      (omega (arith, more)) (omega (arith, more, most, in_range)) (λ le. absurd (omega (arith, le, more)))

  pub number_put : (end' : ℕ) → end' ≡ max end (n / 64 + 1) → IsListing ◌<◌ (λ m. Contains (members words) m ⊎ (m ≡ n)) (members (set words (n / 64) With))
  number_put end' more =
      let small = (words_with end' more).small in
      let others = other_digit With (λ r lt ne. bit_at_set_other w64 (get_or words (n / 64) 0) (n % 64) (omega arith) r ne) in
      listing_of (λ m. Contains (members words) m ⊎ (m ≡ n)) (set words (n / 64) With) small
      (λ m. (
        λ c.
            let w = only_members (set words (n / 64) With) small m c in
            ⊎_elim (λ e. inr e.1) (λ ne. inl (all_members words is.small m w.0 (sym (others m ne.1) ∙ w.1))) (eqb_tells m n),
        λ h.
            ⊎_elim
            (λ e. subst (Contains (members (set words (n / 64) With))) (sym e.1) (all_members (set words (n / 64) With) small n in_range (written_digit With n refl ∙ bit_at_set_same w64 (get_or words (n / 64) 0) (n % 64) (omega arith))))
            (λ ne. ⊎_elim
            (λ c. let w = only_members words is.small m c in all_members (set words (n / 64) With) small m w.0 (others m ne.1 ∙ w.1))
            (λ e. absurd (ne.1 e))
            h)
            (eqb_tells m n),
      ))

  -- the number is taken off
  abbrev Without : ℕ
  Without = bit_and (get_or words (n / 64) 0) (bit_not w64 (1 * 2 ^ (n % 64) % 2 ^ 64))

  pub words_without : AreWordsOfSet (set words (n / 64) Without) end
  words_without =
      let few = and_le_l (get_or words (n / 64) 0) (bit_not w64 (1 * 2 ^ (n % 64) % 2 ^ 64)) in
      let old = is.small (n / 64) in
      written_words words end (n / 64) Without end is (omega (arith, in_range)) (omega (arith, few, old)) (omega arith) is.most (λ le. let none = is.past (n / 64) le in omega (arith, few, none))

  pub number_removed : IsListing ◌<◌ (λ m. Contains (members words) m × (m ≢ n)) (members (set words (n / 64) Without))
  number_removed =
      let small = words_without.small in
      let others = other_digit Without (λ r lt ne. bit_at_clear_other w64 (get_or words (n / 64) 0) (n % 64) (omega arith) r lt ne) in
      listing_of (λ m. Contains (members words) m × (m ≢ n)) (set words (n / 64) Without) small
      (λ m. (
        λ c.
            let w = only_members (set words (n / 64) Without) small m c in
            let ne : m ≢ n = λ e. (let here = w.1 in let cleared = written_digit Without n refl ∙ bit_at_clear_same w64 (get_or words (n / 64) 0) (n % 64) (omega arith) in let same = ap (λ k. bit_at (get_or (set words (n / 64) Without) (k / 64) 0) (k % 64)) e in omega (arith, here, cleared, same)) in
            (all_members words is.small m w.0 (sym (others m ne) ∙ w.1), ne),
        λ h. let w = only_members words is.small m h.0 in all_members (set words (n / 64) Without) small m w.0 (others m h.1 ∙ w.1),
      ))
