-- Symmetries of a puzzle have a spelling.
use Rattle.std.proofs.Common.{◌<◌, ◌≤◌, ℕ, suc, List, [], ◌∷◌, All, length, arith}
use Rattle.std.specs.Prelude.{slice_index}
use Rattle.std.specs.List.{AllByRecursion}
use Rattle.std.proofs.lemmas.List.Elements.{recursion_from_All}
use Rattle.match_board.specs.Board.{cell_count}
use Rattle.match_puzzle.specs.Puzzle.{IsPuzzle, Task}
use Rattle.match_puzzle.proofs.Words.{few_sides}
use Rattle.match_limits.specs.declared.TheConstants.{MOST_CELLS}
use Rattle.match_limits.specs.declared.ranges.TheConstants.{SECOND}
use Rattle.match_symmetry.specs.Suggestions.{HasLeastShift}
use Rattle.puzzle_symmetry.specs.Symmetry.{IsPermutation, IsSymmetry}
use Rattle.match_board.specs.declared.symmetry_lines.SymmetryLine.{SymmetryLine}
use Rattle.puzzle_symmetry.proofs.FaultLemmas.{few_colours}
use Rattle.cert_text.specs.CertificateSpelling.{AreColourImagesWithin, AreImagesWithin, IsSymmetryWithin}
use Rattle.cert_text.proofs.WiderLemmas.{each_within}

each_at : (P : ℕ → Type 0) (images : List ℕ) → ((i : ℕ) → i < length images → P (slice_index images i)) → AllByRecursion P images
each_at P [] at = tt
each_at P (image ∷ images) at = (at 0 (omega arith), each_at P images (λ i lt. at (suc i) (omega (arith, lt))))

module _ (p : Task) (puzzle : IsPuzzle p) where
  images_within : (count : ℕ) → count ≤ MOST_CELLS → (images : List ℕ) → IsPermutation count images → AreImagesWithin SECOND images
  images_within count most images is =
      (omega (arith, is.long, most), each_at _ images (λ i lt. let below = is.below i (omega (arith, lt, is.long)) in omega (arith, below, most)))

  symmetry_within : (g : SymmetryLine) → IsSymmetry p g → HasLeastShift p g → IsSymmetryWithin SECOND g
  symmetry_within g symmetry least =
      let few = few_colours p puzzle symmetry.counted in
      let long = symmetry.colours.long in
      record {
        shift = omega (arith, least, few_sides p.board);
        cells = images_within (cell_count p.board) puzzle.board.most g.cells symmetry.cells;
        colours = (omega (arith, long, few), each_at _ g.colours (λ i lt. let below = symmetry.colours.below i (omega (arith, lt, long)) in omega (arith, below, few)));
        tiles = images_within (length p.words) puzzle.tiles.few g.tiles symmetry.tiles;
      }

  -- each line is within the limits of version 2
  pub lines_within : (lines : List SymmetryLine) → All (IsSymmetry p) lines → All (HasLeastShift p) lines → All (IsSymmetryWithin SECOND) lines
  lines_within lines symmetries shifts = λ k d lt. symmetry_within _ (symmetries k d lt) (shifts k d lt)

-- and so its colours
pub colours_within : (lines : List SymmetryLine) → All (IsSymmetryWithin SECOND) lines → AllByRecursion (λ (g : SymmetryLine). AreColourImagesWithin g.colours) lines
colours_within lines within = each_within (IsSymmetryWithin SECOND) (λ g. AreColourImagesWithin g.colours) (λ g is. is.colours) lines (recursion_from_All (IsSymmetryWithin SECOND) lines within)
