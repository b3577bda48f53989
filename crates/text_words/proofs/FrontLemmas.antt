-- Where reading goes on after what a line begins with.
use Rattle.std.proofs.Common.{◌≡◌, ℕ, ◌+◌, ◌-◌, ◌<◌, ◌≤◌, true, List, [], ◌∷◌, ◌++◌, length, get_or, take, drop, Some, Ok, refl, sym, append_assoc, arith}
use Rattle.match_limits.specs.declared.TheConstants.{LAST_TURN}
use Rattle.match_limits.specs.declared.ranges.Ranges.{Ranges}
use Rattle.match_limits.specs.Ranges.{AreRanges}
use Rattle.std.specs.Str.{bytes_eq}
use Rattle.std.proofs.lemmas.Slice.Eq.{bytes_eq-Decides}
use Rattle.std.specs.Str.Parse.{digits_value}
use Rattle.std.proofs.lemmas.Bool.{ne_eqb}
use Rattle.text_words.specs.declared.faults.TextKind.TheVariants.{Word}
use Rattle.text_words.specs.Bytes.{cut_at, words_of}
use Rattle.text_words.specs.PlainWords.{is_number, fixed_in, number_in}
use Rattle.text_words.specs.Words.{placement_in}
use Rattle.text_words.specs.Place.{Place, fail, end_of_line, some_word, word_by}
use Rattle.text_words.proofs.WordLemmas.{has_no, number_lacks, cut_dot}
use Rattle.text_words.proofs.WordEndLemmas.{first_of, all_left, one_is, words_after, has_no-append, number_in_range, IsDigitsFront, IsNumberFront}
use Rattle.match_puzzle.specs.declared.placements.Placement.{Placement}

pub end_at_word : (p : Place) (line : List ℕ) → p.words ≡ words_of line → end_of_line p ≡ fail p.line Word
unfolding end_of_line
end_at_word p line e = let first = first_of line in rw (e, first.2) refl

pub some_at_word : (p : Place) (line : List ℕ) → p.words ≡ words_of line → some_word p ≡ Ok (tt, p)
unfolding some_word
some_at_word p line e = let first = first_of line in rw (e, first.2) refl

bytes_same : (bytes : List ℕ) → bytes_eq bytes bytes ≡ true
bytes_same bytes = (bytes_eq-Decides bytes bytes).1 refl

-- where reading goes on after a fixed word
pub at_fixed_word : (wanted : List ℕ) (p : Place) (line others : List ℕ) → words_of line ≡ wanted ∷ words_of others → p.words ≡ words_of line
    → word_by (fixed_in wanted) p ≡ Ok (tt, record { line = p.line; words = words_of others; ahead = p.ahead })
unfolding word_by
at_fixed_word wanted p line others front at = rw (at, front, bytes_same wanted) refl

-- where reading goes on after a short number
pub at_short_number : (least most n : ℕ) (p : Place) (line others : List ℕ) → IsNumberFront line others n → p.words ≡ words_of line → least ≤ n → n ≤ most
    → word_by (number_in least most) p ≡ Ok (n, record { line = p.line; words = words_of others; ahead = p.ahead })
unfolding word_by
at_short_number least most n p line others front at low high = rw (at, front.1, number_in_range least most n front.0 front.2 front.3 low high) refl

-- ---- a short placement

-- a placement in any ranges, and the words after it
abbrev pub IsPlacementFront : List ℕ → List ℕ → Placement → Type 0
IsPlacementFront line others p =
    (word : List ℕ) × (words_of line ≡ word ∷ words_of others) × ((ranges : Ranges) → AreRanges ranges → placement_in ranges word ≡ Ok p)

placement_is : (ranges : Ranges) (word tile_word turn_word : List ℕ) (tile turn : ℕ) → cut_at 46 word ≡ Some (tile_word, turn_word) → (is_number tile_word ≡ true) × (digits_value 10 tile_word ≡ tile) → (is_number turn_word ≡ true) × (digits_value 10 turn_word ≡ turn)
    → tile ≤ ranges.last_cell → turn ≤ LAST_TURN → placement_in ranges word ≡ Ok (record { tile = tile; turn = turn })
unfolding placement_in
placement_is ranges word tile_word turn_word tile turn cut first second low high =
    rw (cut, number_in_range 0 ranges.last_cell tile tile_word first.0 first.1 (omega arith) low, number_in_range 0 LAST_TURN turn turn_word second.0 second.1 (omega arith) high) refl

pub placement_front : (line after : List ℕ) (tile turn : ℕ) → IsDigitsFront line after tile → tile < 100 → 3 ≤ length after → get_or after 0 0 ≡ 46 → 48 ≤ get_or after 1 0 → get_or after 1 0 ≤ 51 → get_or after 2 0 ≡ 32 → turn + 48 ≡ get_or after 1 0
    → IsPlacementFront line (take (length after - 3) (drop 3 after)) (record { tile = tile; turn = turn })
placement_front line [] tile turn digits few long dot low high space is = absurd (omega (arith, long))
placement_front line (p ∷ []) tile turn digits few long dot low high space is = absurd (omega (arith, long))
placement_front line (p ∷ r ∷ []) tile turn digits few long dot low high space is = absurd (omega (arith, long))
placement_front line (p ∷ r ∷ b ∷ others) tile turn digits few long dot low high space is =
    let left = all_left others (length (p ∷ r ∷ b ∷ others) - 3) (omega arith) in
    let word = digits.0 ++ 46 ∷ r ∷ [] in
    let clean : has_no 32 word ≡ true = has_no-append 32 digits.0 (46 ∷ r ∷ []) (number_lacks 32 (omega arith) digits.0 digits.2) (rw (ne_eqb r 32 (omega arith)) refl) in
    let whole : line ≡ word ++ 32 ∷ others = rw (digits.1, dot, space) (sym (append_assoc digits.0 (46 ∷ r ∷ []) (32 ∷ others))) in (
      word,
      rw (left, whole) (words_after word others clean),
      λ ranges are. placement_is ranges word digits.0 (r ∷ []) tile turn (cut_dot 46 digits.0 (r ∷ []) (number_lacks 46 (omega arith) digits.0 digits.2)) (digits.2, digits.3) (one_is r turn low (omega arith) is) (omega (arith, few, are.plain, are.last)) (omega arith),
    )

-- where reading goes on after a short placement
pub at_short_placement : (ranges : Ranges) → AreRanges ranges → (placement : Placement) (p : Place) (line others : List ℕ) → IsPlacementFront line others placement → p.words ≡ words_of line
    → word_by (placement_in ranges) p ≡ Ok (placement, record { line = p.line; words = words_of others; ahead = p.ahead })
unfolding word_by
at_short_placement ranges are placement p line others front at = rw (at, front.1, front.2 ranges are) refl
