-- A text that spells a certificate is of the characters of texts.
use Rattle.std.proofs.Common.{◌≡◌, ℕ, zero, suc, ◌+◌, ◌<◌, ◌≤◌, ◌^◌, Bool, true, false, List, [], ◌∷◌, ◌++◌, length, map, refl, sym, subst, arith, codes, decimal}
use Rattle.std.specs.List.{AllByRecursion}
use Rattle.match_limits.specs.declared.TheConstants.{MOST_COLOURS}
use Rattle.match_limits.specs.declared.ranges.Ranges.{Ranges}
use Rattle.match_limits.specs.Ranges.{ranges_of, AreRanges}
use Rattle.match_limits.proofs.RangesLemmas.{are_ranges}
use Rattle.match_board.specs.declared.symmetry_lines.SymmetryLine.{SymmetryLine}
use Rattle.match_puzzle.specs.declared.items.Item.{Item}
use Rattle.match_puzzle.specs.declared.items.Item.TheVariants as items
use Rattle.match_puzzle.specs.declared.placements.Pair.{Pair}
use Rattle.text_words.specs.Characters.{has_text_characters, IsOfTextCharacters, ReadsTextCharactersAlone}
use Rattle.text_words.specs.Spelling.{colour_word, placement_word, count_words, end_lines}
use Rattle.text_words.proofs.CharacterLemmas.{are_plain, are_plain_lines, plain-append, plain-colour, plain-counted, plain-decimal, plain-text, version_small, words-append, words-map, lines-append, lines-map}
use Rattle.cert_tree.specs.Tree.{Tree, Forest, branch, dead, found, same, image, none, more, count}
use Rattle.cert_tree.specs.Certificate.{Piece}
use Rattle.cert_tree.specs.Limits.{IsItemWithin, IsTreeWithin, AreTreesWithin, IsPairWithin, IsLemmaWithin}
use Rattle.cert_text.specs.CertificateText.{Said, certificate_of}
use Rattle.cert_text.specs.TreeSpelling.{branch_words, dead_words, tree_words, forest_words}
use Rattle.cert_text.specs.CertificateSpelling.{mirrored_word, symmetry_words, pair_word, lemma_words, certificate_lines, certificate_spelling, IsSymmetryWithin, IsCertificateWithin}
use Rattle.cert_text.proofs.CertificateTextLemmas.{certificate_found}

-- ---- symmetries

plain-mirrored : (mirrored : Bool) → has_text_characters (mirrored_word mirrored) ≡ true
plain-mirrored false = refl
plain-mirrored true = refl

plain-numbers : (last : ℕ) → last < 2 ^ 32 → (numbers : List ℕ) → AllByRecursion (λ n. n ≤ last) numbers → are_plain (map decimal numbers) ≡ true
plain-numbers last small numbers fits = words-map (λ n. n ≤ last) decimal (λ n le. plain-decimal n (omega (arith, le, small))) numbers fits

plain-symmetry : (ranges : Ranges) → AreRanges ranges → (g : SymmetryLine) → IsSymmetryWithin ranges g → are_plain (symmetry_words g) ≡ true
plain-symmetry ranges are g fits =
    let small : ranges.last_cell < 2 ^ 32 = omega (arith, are.last) in
    let tiles = plain-numbers ranges.last_cell small g.tiles fits.tiles.1 in
    let colours = words-append (map colour_word g.colours) (codes "tiles" ∷ map decimal g.tiles) (words-map (λ colour. colour < MOST_COLOURS) colour_word plain-colour g.colours fits.colours.1) tiles in
    let cells = words-append (map decimal g.cells) (codes "colours" ∷ (map colour_word g.colours ++ (codes "tiles" ∷ map decimal g.tiles))) (plain-numbers ranges.last_cell small g.cells fits.cells.1) colours in
    rw (plain-decimal g.shift (omega (arith, fits.shift)), plain-mirrored g.mirrored, cells) refl

-- ---- lemmas

module _ (cells : ℕ) (small : cells < 2 ^ 32) where
  plain-pair : (x : Pair) → IsPairWithin cells x → has_text_characters (pair_word x) ≡ true
  plain-pair x fits =
      let placed = plain-append (decimal x.placement.tile) (46 ∷ decimal x.placement.turn) (plain-decimal x.placement.tile (omega (arith, fits.1, small))) (plain-decimal x.placement.turn (omega (arith, fits.2))) in
      plain-append (decimal x.cell) (58 ∷ placement_word x.placement) (plain-decimal x.cell (omega (arith, fits.0, small))) placed

  plain-branch : (item : Item) → IsItemWithin cells item → are_plain (branch_words item) ≡ true
  plain-branch (items.Cell cell) fits = rw (plain-decimal cell (omega (arith, fits, small))) refl
  plain-branch (items.Tile tile) fits = rw (plain-decimal tile (omega (arith, fits, small))) refl

  plain-dead : (item : Item) → IsItemWithin cells item → are_plain (dead_words item) ≡ true
  plain-dead (items.Cell cell) fits = rw (plain-decimal cell (omega (arith, fits, small))) refl
  plain-dead (items.Tile tile) fits = rw (plain-decimal tile (omega (arith, fits, small))) refl

  mutual
    plain-tree : (room : ℕ) (tree : Tree) → IsTreeWithin cells room tree → are_plain (tree_words tree) ≡ true
    plain-tree zero tree fits = absurd fits
    plain-tree (suc room) (branch item children) fits =
        words-append (branch_words item) (decimal (count children) ∷ forest_words children) (plain-branch item fits.0)
        (rw (plain-decimal (count children) (omega (arith, fits.2, small)), plain-forest room children fits.3) refl)
    plain-tree (suc room) (dead item) fits = plain-dead item fits
    plain-tree (suc room) (found number) fits = rw (plain-decimal number (omega (arith, fits))) refl
    plain-tree (suc room) (same lemma) fits = rw (plain-decimal lemma (omega (arith, fits))) refl
    plain-tree (suc room) (image lemma symmetry) fits =
        rw (plain-decimal lemma (omega (arith, fits.0)), plain-decimal symmetry (omega (arith, fits.1))) refl

    plain-forest : (room : ℕ) (trees : Forest) → AreTreesWithin cells room trees → are_plain (forest_words trees) ≡ true
    plain-forest room none fits = refl
    plain-forest room (more tree trees) fits = words-append (tree_words tree) (forest_words trees) (plain-tree room tree fits.0) (plain-forest room trees fits.1)

  plain-lemma : (piece : Piece) → IsLemmaWithin cells piece → are_plain (lemma_words piece) ≡ true
  plain-lemma piece fits =
      let rest = words-append (map pair_word piece.prefix) (codes "tree" ∷ tree_words piece.tree) (words-map (IsPairWithin cells) pair_word plain-pair piece.prefix fits.pairs) (plain-tree (cells + 1) piece.tree fits.tree) in
      rw (plain-decimal piece.number (omega (arith, fits.number)), rest) refl

-- ---- a certificate

plain-certificate : (said : Said) → IsCertificateWithin said → IsOfTextCharacters (certificate_spelling said)
unfolding certificate_spelling
plain-certificate said fits =
    let ranges = ranges_of said.version in
    let are = are_ranges said.version in
    let small : ranges.most_cells < 2 ^ 32 = omega (arith, are.few) in
    let lemmas = map lemma_words said.pieces in
    let symmetries = map symmetry_words said.symmetries in
    let five = lines-append lemmas end_lines (lines-map (IsLemmaWithin ranges.most_cells) lemma_words (plain-lemma ranges.most_cells small) said.pieces fits.pieces) refl in
    let count_lemmas = count_words (codes "lemmas") (length said.pieces) in
    let four : are_plain_lines ((count_lemmas ∷ []) ++ (lemmas ++ end_lines)) ≡ true = rw (plain-counted (codes "lemmas") (length said.pieces) refl (omega (arith, fits.few_pieces)), five) refl in
    let three = lines-append symmetries ((count_lemmas ∷ []) ++ (lemmas ++ end_lines)) (lines-map (IsSymmetryWithin ranges) symmetry_words (plain-symmetry ranges are) said.symmetries fits.symmetries) four in
    let second = plain-counted (codes "symmetries") (length said.symmetries) refl (omega (arith, fits.few_symmetries)) in
    let first = plain-counted (codes "certificate") said.version refl (version_small said.version fits.version) in
    plain-text (certificate_lines said) (rw (first, second, three) refl)

pub certificates_are : ReadsTextCharactersAlone certificate_of
certificates_are text said e =
    let found_it = certificate_found text said e in
    subst IsOfTextCharacters (sym found_it.1) (plain-certificate said found_it.0)
