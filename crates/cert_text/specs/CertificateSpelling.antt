-- The one spelling of a lemma, and of a certificate's symmetries and lemmas in their order.
use Rattle.std.specs.Prelude.{◌≡◌, ◌≤◌, ◌<◌, ℕ, Bool, true, false, List, [], ◌∷◌, ◌++◌, Some, length, map, take, codes, decimal}
use Rattle.std.specs.Prelude.{slice_get}
use Rattle.match_limits.specs.declared.TheConstants.{LAST_SIDE, MOST_COLOURS, MOST_SYMMETRIES, MOST_LEMMAS}
use Rattle.std.specs.List.{AllByRecursion}
use Rattle.match_puzzle.specs.declared.placements.Pair.{Pair}
use Rattle.match_board.specs.declared.symmetry_lines.SymmetryLine.{SymmetryLine}
use Rattle.match_limits.specs.declared.ranges.Ranges.{Ranges}
use Rattle.match_limits.specs.Ranges.{IsVersion, ranges_of}
use Rattle.text_words.specs.Spelling.{text_of, colour_word, placement_word, first_words, count_words, end_lines}
use Rattle.cert_tree.specs.Certificate.{Piece}
use Rattle.cert_tree.specs.Limits.{IsLemmaWithin}
use Rattle.cert_text.specs.CertificateText.{Said}
use Rattle.cert_text.specs.TreeSpelling.{tree_words}

-- ---- symmetries

abbrev pub mirrored_word : Bool → List ℕ
mirrored_word false = codes "+"
mirrored_word true = codes "-"

abbrev pub symmetry_words : SymmetryLine → List (List ℕ)
symmetry_words g =
    codes "symmetry" ∷ decimal g.shift ∷ mirrored_word g.mirrored
    ∷ codes "cells"
    ∷ (map decimal g.cells ++ (codes "colours" ∷ (map colour_word g.colours ++ (codes "tiles" ∷ map decimal g.tiles))))

-- how many symmetries there are, and then the line of each
abbrev pub symmetries_spelling : List SymmetryLine → List ℕ
symmetries_spelling lines = text_of (count_words (codes "symmetries") (length lines) ∷ []) ++ text_of (map symmetry_words lines)

-- ---- lemmas

-- a cell, and a placement there
abbrev pub pair_word : Pair → List ℕ
pair_word x = decimal x.cell ++ 58 ∷ placement_word x.placement

abbrev pub lemma_words : Piece → List (List ℕ)
lemma_words piece =
    codes "lemma" ∷ decimal piece.number ∷ codes "prefix"
    ∷ (map pair_word piece.prefix ++ (codes "tree" ∷ tree_words piece.tree))

unfoldable pub lemma_spelling : Piece → List ℕ
lemma_spelling piece = text_of (lemma_words piece ∷ [])

-- ---- certificates

abbrev pub certificate_lines : Said → List (List (List ℕ))
certificate_lines said =
    (first_words (codes "certificate") said.version ∷ [])
    ++ ((count_words (codes "symmetries") (length said.symmetries) ∷ []) ++ (map symmetry_words said.symmetries
    ++ ((count_words (codes "lemmas") (length said.pieces) ∷ []) ++ (map lemma_words said.pieces ++ end_lines))))

unfoldable pub certificate_spelling : Said → List ℕ
certificate_spelling said = text_of (certificate_lines said)

-- what stands before the lemmas
abbrev pub front_spelling : Said → List ℕ
front_spelling said =
    ((text_of (first_words (codes "certificate") said.version ∷ [])
    ++ text_of (count_words (codes "symmetries") (length said.symmetries) ∷ []))
    ++ text_of (map symmetry_words said.symmetries))
    ++ text_of (count_words (codes "lemmas") (length said.pieces) ∷ [])

-- the lines of lemmas
abbrev pub lemma_lines : List Piece → List ℕ
lemma_lines pieces = text_of (map lemma_words pieces)

-- These are the lines of the lemmas from the first number up to the last, which is left out: with them the lines before
-- the first become those before the last.
abbrev pub AreLinesBetween : List Piece → (first last : ℕ) → List ℕ → Type 0
AreLinesBetween pieces first last text = lemma_lines (take last pieces) ≡ lemma_lines (take first pieces) ++ text

-- ---- what has a spelling

-- images of cells, or of tiles, of which there are as many
abbrev pub AreImagesWithin : Ranges → List ℕ → Type 0
AreImagesWithin ranges images =
    (length images ≤ ranges.most_cells) × AllByRecursion (λ n. n ≤ ranges.last_cell) images

-- images of colours
abbrev pub AreColourImagesWithin : List ℕ → Type 0
AreColourImagesWithin images = (length images ≤ MOST_COLOURS) × AllByRecursion (λ n. n < MOST_COLOURS) images

-- The symmetry's line is in these ranges.
pub record IsSymmetryWithin (ranges : Ranges) (g : SymmetryLine) : Type 0 where
  pub shift : g.shift ≤ LAST_SIDE
  pub cells : AreImagesWithin ranges g.cells
  pub colours : AreColourImagesWithin g.colours
  pub tiles : AreImagesWithin ranges g.tiles

-- Each lemma from the first number up to the last, which is left out, is in these ranges.
abbrev pub AreWithinBetween : Ranges → List Piece → (first last : ℕ) → Type 0
AreWithinBetween ranges pieces first last =
    (number : ℕ) (piece : Piece) → first ≤ number → number < last → slice_get pieces number ≡ Some piece
    → IsLemmaWithin ranges.most_cells piece

-- The symmetries are few enough for a text, and in these ranges.
abbrev pub AreSymmetriesWithin : Ranges → List SymmetryLine → Type 0
AreSymmetriesWithin ranges lines = (length lines ≤ MOST_SYMMETRIES) × AllByRecursion (IsSymmetryWithin ranges) lines

-- The symmetries and lemmas are in the ranges of the version.
pub record IsCertificateWithin (said : Said) : Type 0 where
  pub version : IsVersion said.version
  pub few_symmetries : length said.symmetries ≤ MOST_SYMMETRIES
  pub symmetries : AllByRecursion (IsSymmetryWithin (ranges_of said.version)) said.symmetries
  pub few_pieces : length said.pieces ≤ MOST_LEMMAS
  pub pieces : AllByRecursion (IsLemmaWithin (ranges_of said.version).most_cells) said.pieces
