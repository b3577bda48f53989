-- The one spelling of a tree.
use Rattle.std.specs.Prelude.{ℕ, List, [], ◌∷◌, ◌++◌, codes, decimal}
use Rattle.match_puzzle.specs.declared.items.Item.{Item}
use Rattle.match_puzzle.specs.declared.items.Item.TheVariants as items
use Rattle.cert_tree.specs.Tree.{Tree, Forest, branch, dead, found, same, image, none, more, count}

-- a branch's letter and item
abbrev pub branch_words : Item → List (List ℕ)
branch_words (items.Cell cell) = codes "c" ∷ decimal cell ∷ []
branch_words (items.Tile tile) = codes "t" ∷ decimal tile ∷ []

-- the letter and the item of a dead end, where nothing fits
abbrev pub dead_words : Item → List (List ℕ)
dead_words (items.Cell cell) = codes "d" ∷ decimal cell ∷ []
dead_words (items.Tile tile) = codes "e" ∷ decimal tile ∷ []

abbrev mutual
  -- a tree's words, each node before its children
  pub tree_words : Tree → List (List ℕ)
  tree_words (branch item children) = branch_words item ++ (decimal (count children) ∷ forest_words children)
  tree_words (dead item) = dead_words item
  tree_words (found number) = codes "f" ∷ decimal number ∷ []
  tree_words (same lemma) = codes "s" ∷ decimal lemma ∷ []
  tree_words (image lemma symmetry) = codes "i" ∷ decimal lemma ∷ decimal symmetry ∷ []

  pub forest_words : Forest → List (List ℕ)
  forest_words none = []
  forest_words (more tree trees) = tree_words tree ++ forest_words trees
