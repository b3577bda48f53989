-- Trees of case distinctions, as plain data.
use Rattle.std.specs.Prelude.{ℕ, ◌+◌, ◌^◌, ◌<◌, List, [], ◌∷◌}
use Rattle.match_puzzle.specs.declared.items.Item.{Item}
use Rattle.match_puzzle.specs.declared.items.Item.TheVariants as items
use Rattle.cert_tree.specs.declared.nodes.Node.{Node, Cell', Tile', DeadCell, DeadTile, Found, Same, Image, Row_of-Node}
use Rattle.cert_tree.specs.declared.nodes.Node.{end_of-Node, more_of-Node}

mutual
  pub data Tree : Type 0 where
    -- a child for each pair that fits and settles the item
    branch : Item → Forest → Tree
    -- no pair that settles the item fits
    dead : Item → Tree
    -- the listed arrangement with this number
    found : (number : ℕ) → Tree
    -- the prefix of the lemma with this number is within what is placed
    same : (lemma : ℕ) → Tree
    -- the image of that prefix under the symmetry with this number is
    image : (lemma symmetry : ℕ) → Tree

  -- the children of a branch, in order
  pub data Forest : Type 0 where
    none : Forest
    more : Tree → Forest → Forest

-- how many children there are
abbrev pub count : Forest → ℕ
count none = 0
count (more tree trees) = count trees + 1

unfoldable mutual
  -- a node without where it lies in memory
  pub tree_of : Node → Tree
  tree_of (Cell' cell shape row) = branch (items.Cell cell) (trees_of row)
  tree_of (Tile' tile shape row) = branch (items.Tile tile) (trees_of row)
  tree_of (DeadCell cell) = dead (items.Cell cell)
  tree_of (DeadTile tile) = dead (items.Tile tile)
  tree_of (Found number) = found number
  tree_of (Same lemma) = same lemma
  tree_of (Image lemma symmetry) = image lemma symmetry

  pub trees_of : {m : _} → Row_of-Node m → Forest
  trees_of end_of-Node = none
  trees_of (more_of-Node node rest) = more (tree_of node) (trees_of rest)

-- several trees
abbrev pub forest_of : List Node → Forest
forest_of [] = none
forest_of (node ∷ nodes) = more (tree_of node) (forest_of nodes)

abbrev mutual
  -- No branch has 2^32 children or more.
  pub IsNarrow : Tree → Type 0
  IsNarrow (branch item children) = (count children < 2 ^ 32) × AreNarrow children
  IsNarrow (dead item) = Unit {0}
  IsNarrow (found number) = Unit {0}
  IsNarrow (same lemma) = Unit {0}
  IsNarrow (image lemma symmetry) = Unit {0}

  pub AreNarrow : Forest → Type 0
  AreNarrow none = Unit {0}
  AreNarrow (more tree trees) = IsNarrow tree × AreNarrow trees
