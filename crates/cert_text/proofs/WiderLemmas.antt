-- What is within the ranges of a version is within those of version 2.
use Rattle.std.proofs.Common.{◌≤◌, ◌+◌, ℕ, zero, suc, List, [], ◌∷◌, refl, sym, subst, inr, arith}
use Rattle.std.specs.List.{AllByRecursion}
use Rattle.match_puzzle.specs.declared.items.Item.{Item}
use Rattle.match_puzzle.specs.declared.items.Item.TheVariants as items
use Rattle.match_puzzle.specs.declared.placements.Pair.{Pair}
use Rattle.match_board.specs.declared.symmetry_lines.SymmetryLine.{SymmetryLine}
use Rattle.match_limits.specs.declared.ranges.Ranges.{Ranges}
use Rattle.match_limits.specs.declared.ranges.TheConstants.{SECOND}
use Rattle.match_limits.specs.Ranges.{AreRanges, ranges_of}
use Rattle.match_limits.proofs.RangesLemmas.{are_ranges, second_is}
use Rattle.cert_tree.specs.Tree.{Tree, Forest, branch, dead, found, same, image, none, more}
use Rattle.cert_tree.specs.Limits.{IsItemWithin, IsTreeWithin, AreTreesWithin, IsPairWithin, IsLemmaWithin}
use Rattle.cert_tree.specs.Certificate.{Piece}
use Rattle.cert_text.specs.CertificateText.{Said}
use Rattle.cert_text.specs.CertificateSpelling.{AreImagesWithin, IsSymmetryWithin, IsCertificateWithin}

pub each_within : {X : Type 0} (Fits Also : X → Type 0) → ((x : X) → Fits x → Also x) → (xs : List X) → AllByRecursion Fits xs → AllByRecursion Also xs
each_within Fits Also on [] fits = tt
each_within Fits Also on (x ∷ xs) fits = (on x fits.0, each_within Fits Also on xs fits.1)

-- ---- limits of a board with at least as many cells

module _ (narrow wide : ℕ) (cells : narrow ≤ wide) where
  wider_item : (item : Item) → IsItemWithin narrow item → IsItemWithin wide item
  wider_item (items.Cell cell) fits = omega (arith, fits, cells)
  wider_item (items.Tile tile) fits = omega (arith, fits, cells)

  mutual
    wider_tree : (room more_room : ℕ) → room ≤ more_room → (tree : Tree) → IsTreeWithin narrow room tree → IsTreeWithin wide more_room tree
    wider_tree zero more_room le tree fits = absurd fits
    wider_tree (suc room) zero le tree fits = absurd (omega (arith, le))
    wider_tree (suc room) (suc more_room) le (branch item nodes) fits =
        (wider_item item fits.0, fits.1, omega (arith, fits.2, cells), wider_trees room more_room (omega (arith, le)) nodes fits.3)
    wider_tree (suc room) (suc more_room) le (dead item) fits = wider_item item fits
    wider_tree (suc room) (suc more_room) le (found number) fits = fits
    wider_tree (suc room) (suc more_room) le (same lemma) fits = fits
    wider_tree (suc room) (suc more_room) le (image lemma symmetry) fits = fits

    wider_trees : (room more_room : ℕ) → room ≤ more_room → (trees : Forest) → AreTreesWithin narrow room trees → AreTreesWithin wide more_room trees
    wider_trees room more_room le none fits = tt
    wider_trees room more_room le (more tree trees) fits = (wider_tree room more_room le tree fits.0, wider_trees room more_room le trees fits.1)

  wider_pair : (x : Pair) → IsPairWithin narrow x → IsPairWithin wide x
  wider_pair x fits = (omega (arith, fits.0, cells), omega (arith, fits.1, cells), fits.2)

  wider_lemma : (piece : Piece) → IsLemmaWithin narrow piece → IsLemmaWithin wide piece
  wider_lemma piece fits = record {
    number = fits.number;
    few_pairs = omega (arith, fits.few_pairs, cells);
    pairs = each_within (IsPairWithin narrow) (IsPairWithin wide) wider_pair piece.prefix fits.pairs;
    tree = wider_tree (narrow + 1) (wide + 1) (omega (arith, cells)) piece.tree fits.tree;
  }

-- ---- version 2

module _ (ranges : Ranges) (are : AreRanges ranges) where
  second_images : (images : List ℕ) → AreImagesWithin ranges images → AreImagesWithin SECOND images
  second_images images fits =
      let last : ranges.last_cell ≤ SECOND.last_cell = omega (arith, are.few, are.last) in
      (omega (arith, fits.0, are.few), each_within (λ n. n ≤ ranges.last_cell) (λ n. n ≤ SECOND.last_cell) (λ n le. omega (arith, le, last)) images fits.1)

  second_symmetry : (g : SymmetryLine) → IsSymmetryWithin ranges g → IsSymmetryWithin SECOND g
  second_symmetry g fits = record { shift = fits.shift; cells = second_images g.cells fits.cells; colours = fits.colours; tiles = second_images g.tiles fits.tiles }

  second_lemma : (piece : Piece) → IsLemmaWithin ranges.most_cells piece → IsLemmaWithin SECOND.most_cells piece
  second_lemma = wider_lemma ranges.most_cells SECOND.most_cells are.few

-- the same symmetries and lemmas, as version 2 says them
abbrev as_second : Said → Said
as_second said = record { version = 2; symmetries = said.symmetries; pieces = said.pieces }

pub within_second : (said : Said) → IsCertificateWithin said → IsCertificateWithin (as_second said)
within_second said fits =
    let ranges = ranges_of said.version in
    let are = are_ranges said.version in
    record {
      version = inr refl;
      few_symmetries = fits.few_symmetries;
      symmetries = subst (λ (r : Ranges). AllByRecursion (IsSymmetryWithin r) said.symmetries) (sym second_is) (each_within (IsSymmetryWithin ranges) (IsSymmetryWithin SECOND) (second_symmetry ranges are) said.symmetries fits.symmetries);
      few_pieces = fits.few_pieces;
      pieces = subst (λ (r : Ranges). AllByRecursion (IsLemmaWithin r.most_cells) said.pieces) (sym second_is) (each_within (IsLemmaWithin ranges.most_cells) (IsLemmaWithin SECOND.most_cells) (second_lemma ranges are) said.pieces fits.pieces);
    }
