-- A certificate's lemmas in parts, one behind the other.
use Rattle.std.proofs.Common.{◌≡◌, ◌≤◌, ◌<◌, ◌+◌, ◌-◌, ◌++◌, ◌↔◌, ℕ, zero, suc, All, Bool, IsTrue, true, false, List, [], ◌∷◌, Vec, length, map, take, get_or, append_assoc, arith, refl, sym, ap, subst, ◌∙◌, true≢false, ⊎_elim}
use Rattle.std.specs.declared.alloc.Global.{Global}
use Rattle.std.specs.List.{flat_map}
use Rattle.std.proofs.lemmas.Option.{slice_get_within}
use Rattle.std.proofs.lemmas.List.{append-nil, take_all, take_more, map-append}
use Rattle.std.proofs.lemmas.List.Elements.{All-from_get_or}
use Rattle.std.proofs.lemmas.List.Concat.{flat_map-append}
use Rattle.match_limits.proofs.ListLemmas.{member_at}
use Rattle.match_limits.proofs.Listings.{lt_or_le}
use Rattle.match_limits.specs.Ranges.{ranges_of}
use Rattle.text_words.specs.Spelling.{spaced, text_of}
use Rattle.text_words.proofs.WritingLemmas.{spaced-append}
use Rattle.cert_tree.specs.Certificate.{Piece}
use Rattle.cert_text.specs.CertificateSpelling.{lemma_lines, AreWithinBetween}
use Rattle.cert_text.specs.LemmaParts.{part_start, AreCut, AreOfParts, AreLines, TellsOfLimits}

-- ---- words

word_alone : (word : List ℕ) → spaced (word ∷ []) ≡ 32 ∷ word
unfolding spaced
word_alone word = append-nil (32 ∷ word)

-- words that are written behind a text, a space before each
module _ {X : Type 0} (word_of : X → List ℕ) (xs : List X) (old : List ℕ) where
  pub no_word : old ≡ old ++ spaced (map word_of (take 0 xs))
  unfolding spaced
  no_word = sym (append-nil old)

  pub one_word : (before after : List ℕ) (i : ℕ) (d : X) → i < length xs → before ≡ old ++ spaced (map word_of (take i xs)) → after ≡ before ++ 32 ∷ word_of (get_or xs i d)
      → after ≡ old ++ spaced (map word_of (take (i + 1) xs))
  one_word before after i d lt so_far written =
      let word = word_of (get_or xs i d) in
      let words = map word_of (take i xs) in
      let more : spaced (map word_of (take (i + 1) xs)) ≡ spaced words ++ 32 ∷ word = ap (λ ys. spaced (map word_of ys)) (take_more xs i d lt) ∙ ap spaced (map-append word_of (take i xs) (get_or xs i d ∷ [])) ∙ spaced-append words (word ∷ []) ∙ ap (λ t. spaced words ++ t) (word_alone word) in
      written ∙ ap (λ t. t ++ 32 ∷ word) so_far ∙ append_assoc old (spaced words) (32 ∷ word) ∙ ap (λ t. old ++ t) (sym more)

  pub all_words : (text : List ℕ) (i : ℕ) → length xs ≤ i → text ≡ old ++ spaced (map word_of (take i xs)) → text ≡ old ++ spaced (map word_of xs)
  all_words text i le so_far = so_far ∙ ap (λ ys. old ++ spaced (map word_of ys)) (take_all i xs le)

-- ---- lines

no_lines : lemma_lines [] ≡ []
unfolding text_of
no_lines = refl

-- the lines of the first parts are those of their lemmas
first_parts : (pieces : List Piece) (starts : List ℕ) (parts : List (Vec ℕ Global)) → AreCut pieces starts → AreOfParts (AreLines pieces) starts parts → (n : ℕ) → n ≤ length parts
    → lemma_lines (take (part_start starts n) pieces) ≡ flat_map (λ part. part.items) (take n parts)
first_parts pieces starts parts cut are zero le = ap (λ k. lemma_lines (take k pieces)) cut.from_first ∙ no_lines
first_parts pieces starts parts cut are (suc n) le =
    let lt : n < length parts = omega (arith, le) in
    let d = (member_at parts n lt).0 in
    let more : flat_map (λ part. part.items) (take (n + 1) parts) ≡ flat_map (λ part. part.items) (take n parts) ++ (get_or parts n d).items =
    ap (flat_map (λ part. part.items)) (take_more parts n d lt) ∙ flat_map-append (λ part. part.items) (take n parts) (get_or parts n d ∷ []) ∙ ap (λ t. flat_map (λ part. part.items) (take n parts) ++ t) (append-nil (get_or parts n d).items) in
    let next : n + 1 ≡ suc n = omega arith in
    subst (λ k. lemma_lines (take (part_start starts k) pieces) ≡ flat_map (λ part. part.items) (take k parts)) next
    (are.each n d lt ∙ ap (λ t. t ++ (get_or parts n d).items) (first_parts pieces starts parts cut are n (omega (arith, le))) ∙ sym more)

-- where the last part ends
last_start : (pieces : List Piece) (starts : List ℕ) → AreCut pieces starts → (n : ℕ) → length starts ≡ n + 1 → part_start starts n ≡ length pieces
last_start pieces starts cut n many = let last : n ≡ length starts - 1 = omega (arith, many) in ap (part_start starts) last ∙ cut.to_last

-- all parts are the lines of all lemmas
pub all_parts : (pieces : List Piece) (starts : List ℕ) (parts : List (Vec ℕ Global)) → AreCut pieces starts → AreOfParts (AreLines pieces) starts parts → flat_map (λ part. part.items) parts ≡ lemma_lines pieces
all_parts pieces starts parts cut are =
    let all : part_start starts (length parts) ≡ length pieces = last_start pieces starts cut (length parts) are.many in
    sym (
    ap lemma_lines (sym (take_all (length pieces) pieces (omega arith)) ∙ ap (λ k. take k pieces) (sym all))
    ∙ first_parts pieces starts parts cut are (length parts) (omega arith)
    ∙ ap (flat_map (λ part. part.items)) (take_all (length parts) parts (omega arith))
    )

-- ---- limits

-- one part more whose lemmas have spellings
within_more : (version : ℕ) (pieces : List Piece) (middle last : ℕ) → AreWithinBetween (ranges_of version) pieces 0 middle → AreWithinBetween (ranges_of version) pieces middle last → AreWithinBetween (ranges_of version) pieces 0 last
within_more version pieces middle last before behind number piece from below at =
    ⊎_elim (λ lt. before number piece from lt at) (λ le. behind number piece le below at) (lt_or_le number middle)

-- the lemmas of the first parts, of which each told so
abbrev pub AreFirstWithin : (version : ℕ) → List Piece → (starts : List ℕ) → (n : ℕ) → Type 0
AreFirstWithin version pieces starts n = AreWithinBetween (ranges_of version) pieces 0 (part_start starts n)

module _ (version : ℕ) (pieces : List Piece) (starts : List ℕ) (told : List Bool) (cut : AreCut pieces starts) (are : AreOfParts (TellsOfLimits version pieces) starts told) where
  none_first : AreFirstWithin version pieces starts 0
  none_first number piece from below at = let none = cut.from_first in absurd (omega (arith, below, none))

  part_more : (n : ℕ) → n < length told → get_or told n false ≡ true → AreFirstWithin version pieces starts n → AreFirstWithin version pieces starts (n + 1)
  part_more n lt is before = within_more version pieces (part_start starts n) (part_start starts (n + 1)) before (subst (TellsOfLimits version pieces (part_start starts n) (part_start starts (n + 1))) is (are.each n false lt))

  part_fails : (n : ℕ) → n < length told → get_or told n false ≡ false → AreWithinBetween (ranges_of version) pieces 0 (length pieces) → ⊥
  part_fails n lt is all =
      subst (TellsOfLimits version pieces (part_start starts n) (part_start starts (n + 1))) is (are.each n false lt)
      (λ number piece from below at. all number piece (omega arith) (slice_get_within pieces number piece at) at)

  all_first : (n : ℕ) → n ≡ length told → AreFirstWithin version pieces starts n → AreWithinBetween (ranges_of version) pieces 0 (length pieces)
  all_first n is before number piece from below at =
      let all : part_start starts n ≡ length pieces = last_start pieces starts cut n (are.many ∙ ap (λ k. k + 1) (sym is)) in
      before number piece from (omega (arith, all, below)) at

  -- where all told so
  within_where_all : All (λ one. IsTrue one) told → (n : ℕ) → n ≤ length told → AreFirstWithin version pieces starts n
  within_where_all all zero le = none_first
  within_where_all all (suc n) le =
      let lt : n < length told = omega (arith, le) in
      let next : n + 1 ≡ suc n = omega arith in
      let before = within_where_all all n (omega (arith, le)) in
      subst (AreFirstWithin version pieces starts) next (part_more n lt (all n false lt) before)

  -- none told otherwise
  true_or_fails : (n : ℕ) → n < length told → AreWithinBetween (ranges_of version) pieces 0 (length pieces) → (b : Bool) → get_or told n false ≡ b → IsTrue b
  true_or_fails n lt within true is = refl
  true_or_fails n lt within false is = absurd (part_fails n lt is within)

  all_where_within : AreWithinBetween (ranges_of version) pieces 0 (length pieces) → All (λ one. IsTrue one) told
  all_where_within within =
      All-from_get_or (λ one. IsTrue one) told false (λ n lt. true_or_fails n lt within (get_or told n false) refl)

  -- whether all told so tells of all lemmas
  pub told_by_all : (result : Bool) → (IsTrue result ↔ All (λ one. IsTrue one) told) → TellsOfLimits version pieces 0 (length pieces) result
  told_by_all true is = all_first (length told) refl (within_where_all (is.0 refl) (length told) (omega arith))
  told_by_all false is = λ within. true≢false (sym (is.1 (all_where_within within)))
