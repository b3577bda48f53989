-- Words that spell placements.
use Rattle.std.proofs.Common.{◌≡◌, ℕ, ◌^◌, ◌<◌, true, List, ◌∷◌, ◌++◌, length, map, Ok, refl, ap, subst, ◌∙◌, arith}
use Rattle.match_limits.specs.declared.TheConstants.{LAST_TURN}
use Rattle.match_limits.specs.declared.ranges.Ranges.{Ranges}
use Rattle.match_limits.specs.Ranges.{AreRanges}
use Rattle.std.specs.List.{AllByRecursion}
use Rattle.std.specs.Fmt.{decimal}
use Rattle.match_puzzle.specs.declared.placements.Placement.{Placement}
use Rattle.text_words.specs.PlainWords.{◌>>=◌, number_in, or_word}
use Rattle.text_words.specs.Words.{placement_in}
use Rattle.text_words.specs.Bytes.{cut_at}
use Rattle.text_words.specs.Spelling.{placement_word}
use Rattle.text_words.specs.Within.{IsPlacementWithin}
use Rattle.text_words.proofs.WordLemmas.{Spells, judged_bind, judged_ok_is, or_word_is, spells_number, cut_parts, cut_dot, decimal_lacks, is_clean, are_clean, clean-append, clean-decimal, clean-words}

abbrev placed : ℕ → ℕ → Placement
placed tile turn = record { tile = tile; turn = turn }

-- a range of cells is one of numbers
pub last_fits : (ranges : Ranges) → AreRanges ranges → ranges.last_cell < 2 ^ 64
last_fits ranges are = omega (arith, are.few, are.last)

pub spells_placement : (ranges : Ranges) → AreRanges ranges → Spells (placement_in ranges) placement_word (IsPlacementWithin ranges)
unfolding placement_in
spells_placement ranges are = record {
  is = λ word x e.
      let a = judged_bind (or_word (cut_at 46 word)) (λ parts. number_in 0 ranges.last_cell parts.0 >>= λ tile. number_in 0 LAST_TURN parts.1 >>= λ turn. Ok (placed tile turn)) x e in
      let b = judged_bind (number_in 0 ranges.last_cell a.0.0) (λ tile. number_in 0 LAST_TURN a.0.1 >>= λ turn. Ok (placed tile turn)) x a.2 in
      let d = judged_bind (number_in 0 LAST_TURN a.0.1) (λ turn. Ok (placed b.0 turn)) x b.2 in
      let tile = (spells_number 0 ranges.last_cell (last_fits ranges are)).is a.0.0 b.0 b.1 in
      let turn = (spells_number 0 LAST_TURN (omega arith)).is a.0.1 d.0 d.1 in
      let whole : word ≡ decimal b.0 ++ 46 ∷ decimal d.0 = cut_parts 46 word a.0 (or_word_is (cut_at 46 word) a.0 a.1) ∙ ap (λ w. w ++ 46 ∷ a.0.1) tile.0 ∙ ap (λ w. decimal b.0 ++ 46 ∷ w) turn.0 in
      subst (λ (z : Placement). (word ≡ placement_word z) × IsPlacementWithin ranges z) (judged_ok_is (placed b.0 d.0) x d.2) (whole, (tile.1.1, turn.1.1));
  passes = λ x fits.
      rw (cut_dot 46 (decimal x.tile) (decimal x.turn) (decimal_lacks 46 x.tile (omega arith) (omega (arith, fits.0, last_fits ranges are))), (spells_number 0 ranges.last_cell (last_fits ranges are)).passes x.tile (omega arith, fits.0), (spells_number 0 LAST_TURN (omega arith)).passes x.turn (omega arith, fits.1)) refl;
}

pub clean-placement : (ranges : Ranges) → AreRanges ranges → (p : Placement) → IsPlacementWithin ranges p → is_clean (placement_word p) ≡ true
clean-placement ranges are p fits = clean-append (decimal p.tile) (46 ∷ decimal p.turn) (clean-decimal p.tile (omega (arith, fits.0, last_fits ranges are))) (rw (clean-decimal p.turn (omega (arith, fits.1))) refl)

pub clean-row : (ranges : Ranges) → AreRanges ranges → (row : List Placement) → 0 < length row → AllByRecursion (IsPlacementWithin ranges) row → are_clean (map placement_word row) ≡ true
clean-row ranges are row lt fits = clean-words placement_word (IsPlacementWithin ranges) (clean-placement ranges are) row lt fits
