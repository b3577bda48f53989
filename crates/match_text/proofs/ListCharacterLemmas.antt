-- A text that spells a list is of the characters of texts.
use Rattle.std.proofs.Common.{◌≡◌, ℕ, List, ◌++◌, length, map, true, refl, sym, subst, arith, codes}
use Rattle.match_limits.specs.declared.ranges.Ranges.{Ranges}
use Rattle.match_limits.specs.Ranges.{ranges_of, AreRanges}
use Rattle.match_limits.proofs.RangesLemmas.{are_ranges}
use Rattle.match_puzzle.specs.declared.placements.Placement.{Placement}
use Rattle.text_words.specs.Characters.{IsOfTextCharacters, ReadsTextCharactersAlone}
use Rattle.text_words.specs.Spelling.{placement_word, end_lines}
use Rattle.text_words.specs.Within.{IsPlacementWithin}
use Rattle.text_words.proofs.CharacterLemmas.{are_plain, are_plain_lines, plain-counted, plain-placement, plain-text, words-map, lines-append, lines-map, version_small}
use Rattle.match_text.specs.Lists.{list_of}
use Rattle.match_text.specs.ListSpelling.{arrangement_words, list_head, list_lines, list_spelling, IsRowWithin, IsSpelledIn}
use Rattle.match_text.proofs.ListLemmas.{rows_found}

plain-row : (ranges : Ranges) → AreRanges ranges → (row : List Placement) → IsRowWithin ranges row → are_plain (arrangement_words row) ≡ true
plain-row ranges are row fits = words-map (IsPlacementWithin ranges) placement_word (plain-placement ranges are) row fits.2

plain-list : (version : ℕ) (rows : List (List Placement)) → IsSpelledIn version rows → IsOfTextCharacters (list_spelling version rows)
unfolding list_spelling
plain-list version rows fits =
    let ranges = ranges_of version in
    let head : are_plain_lines (list_head version (length rows)) ≡ true = rw (plain-counted (codes "list") version refl (version_small version fits.0), plain-counted (codes "arrangements") (length rows) refl (omega (arith, fits.1.0))) refl in
    plain-text (list_lines version rows) (lines-append (list_head version (length rows)) (map arrangement_words rows ++ end_lines) head
    (lines-append (map arrangement_words rows) end_lines (lines-map (IsRowWithin ranges) arrangement_words (plain-row ranges (are_ranges version)) rows fits.1.1) refl))

pub lists_are : ReadsTextCharactersAlone list_of
lists_are text listed e =
    let found = rows_found text listed e in
    subst IsOfTextCharacters (sym found.2) (plain-list found.0 listed found.1)
