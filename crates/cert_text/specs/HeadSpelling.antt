-- The words of a tree, head by head.
use Rattle.std.specs.Prelude.{ℕ, List, [], ◌∷◌, codes, decimal}
use Rattle.cert_tree.specs.declared.heads.Head.{Head}
use Rattle.cert_tree.specs.declared.heads.Head.TheVariants as heads

abbrev pub head_words : Head → List (List ℕ)
head_words (heads.Cell cell children) = codes "c" ∷ decimal cell ∷ decimal children ∷ []
head_words (heads.Tile tile children) = codes "t" ∷ decimal tile ∷ decimal children ∷ []
head_words (heads.DeadCell cell) = codes "d" ∷ decimal cell ∷ []
head_words (heads.DeadTile tile) = codes "e" ∷ decimal tile ∷ []
head_words (heads.Found number) = codes "f" ∷ decimal number ∷ []
head_words (heads.Same lemma) = codes "s" ∷ decimal lemma ∷ []
head_words (heads.Image symmetry lemma) = codes "i" ∷ decimal lemma ∷ decimal symmetry ∷ []
