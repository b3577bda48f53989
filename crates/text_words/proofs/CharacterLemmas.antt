-- Texts are of the characters of texts where their words are.
use Rattle.std.proofs.Common.{◌≡◌, ◌&&◌, ℕ, ◌+◌, ◌<◌, ◌%◌, ◌^◌, Bool, true, List, [], ◌∷◌, ◌++◌, map, Option, Some, None, refl, arith, codes, decimal, inl, inr, ⊎_elim}
use Rattle.std.specs.List.{AllByRecursion, flat_map, join_with_byte}
use Rattle.std.proofs.lemmas.Bool.{cases_lt, le-leb, le-ltb, lt-leb, lt-ltb}
use Rattle.std.proofs.lemmas.Fmt.{decimal_by_steps}
use Rattle.match_limits.specs.declared.TheConstants.{MOST_COLOURS}
use Rattle.match_limits.specs.declared.ranges.Ranges.{Ranges}
use Rattle.match_limits.specs.Ranges.{IsVersion, AreRanges}
use Rattle.match_puzzle.specs.declared.placements.Placement.{Placement}
use Rattle.text_words.specs.Characters.{is_text_character, has_text_characters}
use Rattle.text_words.specs.Spelling.{text_of, line_text, placement_word, count_words, colour_character, colour_word, rule_word, tile_word, asks_word}
use Rattle.text_words.specs.Within.{IsPlacementWithin, IsRuleWithin}
use Rattle.text_words.proofs.WordLemmas.{both}

-- ---- texts by their parts

pub plain-append : (a b : List ℕ) → has_text_characters a ≡ true → has_text_characters b ≡ true → has_text_characters (a ++ b) ≡ true
plain-append [] b e h = h
plain-append (c ∷ a) b e h =
    let parts = both (is_text_character c) (has_text_characters a) e in
    rw (parts.0, plain-append a b parts.1 h) refl

-- each word is
abbrev pub are_plain : List (List ℕ) → Bool
are_plain [] = true
are_plain (word ∷ words) = has_text_characters word && are_plain words

-- each word of each line is
abbrev pub are_plain_lines : List (List (List ℕ)) → Bool
are_plain_lines [] = true
are_plain_lines (words ∷ lines) = are_plain words && are_plain_lines lines

plain-join : (words : List (List ℕ)) → are_plain words ≡ true → has_text_characters (join_with_byte 32 words) ≡ true
plain-join [] e = refl
plain-join (word ∷ []) e = (both (has_text_characters word) true e).0
plain-join (word ∷ w ∷ words) e =
    let parts = both (has_text_characters word) (are_plain (w ∷ words)) e in
    plain-append word (32 ∷ join_with_byte 32 (w ∷ words)) parts.0 (plain-join (w ∷ words) parts.1)

plain-line : (words : List (List ℕ)) → are_plain words ≡ true → has_text_characters (line_text words) ≡ true
unfolding line_text
plain-line words e = plain-append (join_with_byte 32 words) (10 ∷ []) (plain-join words e) refl

pub plain-text : (lines : List (List (List ℕ))) → are_plain_lines lines ≡ true → has_text_characters (text_of lines) ≡ true
unfolding text_of
plain-text [] e = refl
plain-text (words ∷ lines) e =
    let parts = both (are_plain words) (are_plain_lines lines) e in
    plain-append (line_text words) (flat_map line_text lines) (plain-line words parts.0) (plain-text lines parts.1)

pub words-append : (a b : List (List ℕ)) → are_plain a ≡ true → are_plain b ≡ true → are_plain (a ++ b) ≡ true
words-append [] b e h = h
words-append (word ∷ a) b e h =
    let parts = both (has_text_characters word) (are_plain a) e in
    rw (parts.0, words-append a b parts.1 h) refl

pub lines-append : (a b : List (List (List ℕ))) → are_plain_lines a ≡ true → are_plain_lines b ≡ true → are_plain_lines (a ++ b) ≡ true
lines-append [] b e h = h
lines-append (words ∷ a) b e h =
    let parts = both (are_plain words) (are_plain_lines a) e in
    rw (parts.0, lines-append a b parts.1 h) refl

module _ {X : Type 0} (Fits : X → Type 0) where
  pub words-map : (word_of : X → List ℕ) → ((x : X) → Fits x → has_text_characters (word_of x) ≡ true) → (xs : List X) → AllByRecursion Fits xs → are_plain (map word_of xs) ≡ true
  words-map word_of plain [] fits = refl
  words-map word_of plain (x ∷ xs) fits = rw (plain x fits.0, words-map word_of plain xs fits.1) refl

  pub lines-map : (words_of : X → List (List ℕ)) → ((x : X) → Fits x → are_plain (words_of x) ≡ true) → (xs : List X) → AllByRecursion Fits xs → are_plain_lines (map words_of xs) ≡ true
  lines-map words_of plain [] fits = refl
  lines-map words_of plain (x ∷ xs) fits = rw (plain x fits.0, lines-map words_of plain xs fits.1) refl

-- ---- words

digit : (n : ℕ) → n < 10 → is_text_character (48 + n) ≡ true
digit n lt = rw (lt-leb 97 (48 + n) (omega (arith, lt)), le-leb 48 (48 + n) (omega arith), le-leb (48 + n) 57 (omega (arith, lt))) refl

pub plain-decimal : (n : ℕ) → n < 2 ^ 64 → has_text_characters (decimal n) ≡ true
plain-decimal n lt =
    decimal_by_steps (λ m ds. has_text_characters ds ≡ true)
    (λ m few. rw (digit m few) refl)
    (λ m ds many plain. plain-append ds ((48 + m % 10) ∷ []) plain (rw (digit (m % 10) (omega arith)) refl))
    n lt

-- a first line, or one that counts
pub plain-counted : (name : List ℕ) (n : ℕ) → has_text_characters name ≡ true → n < 2 ^ 64 → are_plain (count_words name n) ≡ true
plain-counted name n plain lt = rw (plain, plain-decimal n lt) refl

pub plain-placement : (ranges : Ranges) → AreRanges ranges → (p : Placement) → IsPlacementWithin ranges p → has_text_characters (placement_word p) ≡ true
plain-placement ranges are p fits =
    plain-append (decimal p.tile) (46 ∷ decimal p.turn) (plain-decimal p.tile (omega (arith, fits.0, are.last))) (plain-decimal p.turn (omega (arith, fits.1)))

pub plain-character : (c : ℕ) → c < MOST_COLOURS → is_text_character (colour_character c) ≡ true
plain-character c fits =
    elim (cases_lt c 10) [
      | inl lt ↦ rw (lt-ltb c 10 lt, lt-leb 97 (c + 48) (omega (arith, lt)), le-leb 48 (c + 48) (omega arith), le-leb (c + 48) 57 (omega (arith, lt))) refl
      | inr ge ↦ rw (le-ltb c 10 ge, le-leb 97 (c + 87) (omega (arith, ge)), le-leb (c + 87) 122 (omega (arith, fits))) refl
    ]

pub plain-colour : (c : ℕ) → c < MOST_COLOURS → has_text_characters (colour_word c) ≡ true
plain-colour c fits = rw (plain-character c fits) refl

pub plain-rule : (rule : Option ℕ) → IsRuleWithin rule → has_text_characters (rule_word rule) ≡ true
plain-rule None fits = refl
plain-rule (Some c) fits = plain-colour c fits

pub plain-tile : (colours : List ℕ) → AllByRecursion (λ colour. colour < MOST_COLOURS) colours → has_text_characters (tile_word colours) ≡ true
plain-tile [] fits = refl
plain-tile (c ∷ colours) fits = rw (plain-character c fits.0, plain-tile colours fits.1) refl

pub plain-asks : (asks : List (Option ℕ)) → AllByRecursion IsRuleWithin asks → has_text_characters (asks_word asks) ≡ true
plain-asks [] fits = refl
plain-asks (None ∷ asks) fits = plain-asks asks fits.1
plain-asks (Some c ∷ asks) fits = rw (plain-character c fits.0, plain-asks asks fits.1) refl

pub version_small : (version : ℕ) → IsVersion version → version < 2 ^ 64
version_small version is = ⊎_elim (λ one. omega (arith, one)) (λ two. omega (arith, two)) is
