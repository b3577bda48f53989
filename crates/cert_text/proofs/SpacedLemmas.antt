-- Words that are written behind one another.
use Rattle.std.proofs.Common.{◌≡◌, ℕ, List, [], ◌∷◌, ◌++◌, map, refl, ap, ◌∙◌, append_assoc, codes}
use Rattle.std.specs.Fmt.{decimal}
use Rattle.match_board.specs.declared.symmetry_lines.SymmetryLine.{SymmetryLine}
use Rattle.text_words.specs.Spelling.{line_text, spaced, colour_word}
use Rattle.text_words.proofs.WritingLemmas.{spaced-append, line_text-cons}
use Rattle.cert_tree.specs.Certificate.{Piece}
use Rattle.cert_text.specs.TreeSpelling.{tree_words}
use Rattle.cert_text.specs.CertificateSpelling.{mirrored_word, symmetry_words, pair_word, lemma_words}

-- ---- lines

line_spaced : (word : List ℕ) (words : List (List ℕ)) → line_text (word ∷ words) ≡ word ++ (spaced words ++ 10 ∷ [])
line_spaced word words = line_text-cons word words ∙ append_assoc word (spaced words) (10 ∷ [])

-- a word and what follows it, within a line
word_then : (word : List ℕ) (words : List (List ℕ)) (rest : List ℕ) → spaced (word ∷ words) ++ rest ≡ 32 ∷ (word ++ (spaced words ++ rest))
unfolding spaced
word_then word words rest = append_assoc (32 ∷ word) (spaced words) rest

words_then : (words others : List (List ℕ)) (rest : List ℕ) → spaced (words ++ others) ++ rest ≡ spaced words ++ (spaced others ++ rest)
words_then words others rest = ap (λ t. t ++ rest) (spaced-append words others) ∙ append_assoc (spaced words) (spaced others) rest

abbrev after_mirrored : SymmetryLine → List (List ℕ)
after_mirrored g = codes "cells" ∷ (map decimal g.cells ++ (codes "colours" ∷ (map colour_word g.colours ++ (codes "tiles" ∷ map decimal g.tiles))))

-- a symmetry's line by its parts
pub symmetry_parts : (g : SymmetryLine)
    → line_text (symmetry_words g) ≡ codes "symmetry " ++ (decimal g.shift ++ (32 ∷ (mirrored_word g.mirrored ++ (codes " cells" ++ (spaced (map decimal g.cells) ++ (codes " colours" ++ (spaced (map colour_word g.colours) ++ (codes " tiles" ++ (spaced (map decimal g.tiles) ++ 10 ∷ [])))))))))
symmetry_parts g =
    let end = 10 ∷ [] in
    let tiles = map decimal g.tiles in
    let colours = map colour_word g.colours in
    let cells = map decimal g.cells in
    line_spaced (codes "symmetry") (decimal g.shift ∷ mirrored_word g.mirrored ∷ after_mirrored g)
    ∙ ap (λ t. codes "symmetry" ++ t) (word_then (decimal g.shift) (mirrored_word g.mirrored ∷ after_mirrored g) end
    ∙ ap (λ t. 32 ∷ (decimal g.shift ++ t)) (word_then (mirrored_word g.mirrored) (after_mirrored g) end
    ∙ ap (λ t. 32 ∷ (mirrored_word g.mirrored ++ t)) (word_then (codes "cells") (cells ++ (codes "colours" ∷ (colours ++ (codes "tiles" ∷ tiles)))) end
    ∙ ap (λ t. codes " cells" ++ t) (words_then cells (codes "colours" ∷ (colours ++ (codes "tiles" ∷ tiles))) end
    ∙ ap (λ t. spaced cells ++ t) (word_then (codes "colours") (colours ++ (codes "tiles" ∷ tiles)) end
    ∙ ap (λ t. codes " colours" ++ t) (words_then colours (codes "tiles" ∷ tiles) end
    ∙ ap (λ t. spaced colours ++ t) (word_then (codes "tiles") tiles end)))))))

-- a lemma's line by its parts
pub lemma_parts : (piece : Piece)
    → line_text (lemma_words piece) ≡ codes "lemma " ++ (decimal piece.number ++ (codes " prefix" ++ (spaced (map pair_word piece.prefix) ++ (codes " tree" ++ (spaced (tree_words piece.tree) ++ 10 ∷ [])))))
lemma_parts piece =
    let end = 10 ∷ [] in
    let pairs = map pair_word piece.prefix in
    let tree = tree_words piece.tree in
    line_spaced (codes "lemma") (decimal piece.number ∷ codes "prefix" ∷ (pairs ++ (codes "tree" ∷ tree)))
    ∙ ap (λ t. codes "lemma" ++ t) (word_then (decimal piece.number) (codes "prefix" ∷ (pairs ++ (codes "tree" ∷ tree))) end
    ∙ ap (λ t. 32 ∷ (decimal piece.number ++ t)) (word_then (codes "prefix") (pairs ++ (codes "tree" ∷ tree)) end
    ∙ ap (λ t. codes " prefix" ++ t) (words_then pairs (codes "tree" ∷ tree) end
    ∙ ap (λ t. spaced pairs ++ t) (word_then (codes "tree") tree end))))

-- ---- parts one after the other

pub six_parts : (old a b c d e f : List ℕ) → (((((old ++ (a ++ b)) ++ c) ++ d) ++ e) ++ f) ++ 10 ∷ [] ≡ old ++ (a ++ (b ++ (c ++ (d ++ (e ++ (f ++ 10 ∷ []))))))
six_parts old a b c d e f = simp append_assoc refl

pub ten_parts : (old a b s c d e f g h : List ℕ) → (((((((((old ++ (a ++ b)) ++ 32 ∷ []) ++ s) ++ c) ++ d) ++ e) ++ f) ++ g) ++ h) ++ 10 ∷ [] ≡ old ++ (a ++ (b ++ (32 ∷ (s ++ (c ++ (d ++ (e ++ (f ++ (g ++ (h ++ 10 ∷ []))))))))))
ten_parts old a b s c d e f g h = simp append_assoc refl
