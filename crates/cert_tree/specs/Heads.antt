-- The heads of trees: each node without its children, before them.
use Rattle.std.specs.Prelude.{◌≡◌, ◌≤◌, ℕ, zero, suc, List, [], ◌∷◌, ◌++◌}
use Rattle.match_puzzle.specs.declared.items.Item.{Item}
use Rattle.match_puzzle.specs.declared.items.Item.TheVariants as items
use Rattle.cert_tree.specs.declared.heads.Head.{Head}
use Rattle.cert_tree.specs.declared.heads.Head.TheVariants as heads
use Rattle.cert_tree.specs.Tree.{Tree, Forest, branch, dead, found, same, image, none, more, count}

-- the head of a branch over the item, with this number of children
abbrev pub branch_head : Item → ℕ → Head
branch_head (items.Cell cell) children = heads.Cell cell children
branch_head (items.Tile tile) children = heads.Tile tile children

-- a dead end at the item
abbrev pub dead_head : Item → Head
dead_head (items.Cell cell) = heads.DeadCell cell
dead_head (items.Tile tile) = heads.DeadTile tile

abbrev mutual
  -- the heads of a tree, each before those of its children
  pub heads_of : Tree → List Head
  heads_of (branch item children) = branch_head item (count children) ∷ heads_in children
  heads_of (dead item) = dead_head item ∷ []
  heads_of (found number) = heads.Found number ∷ []
  heads_of (same lemma) = heads.Same lemma ∷ []
  heads_of (image lemma symmetry) = heads.Image symmetry lemma ∷ []

  -- the heads of trees, one tree after the other
  pub heads_in : Forest → List Head
  heads_in none = []
  heads_in (more tree trees) = heads_of tree ++ heads_in trees

-- ---- read back, from the last head to the first

-- these trees, and then those
abbrev pub join : Forest → Forest → Forest
join none others = others
join (more tree trees) others = more tree (join trees others)

-- the first `n` of the trees
abbrev pub front : ℕ → Forest → Forest
front zero trees = none
front (suc n) none = none
front (suc n) (more tree trees) = more tree (front n trees)

-- the trees after the first `n`
abbrev pub past : ℕ → Forest → Forest
past zero trees = trees
past (suc n) none = none
past (suc n) (more tree trees) = past n trees

-- A head and the trees after it: the first of them are its children.
abbrev pub put : Head → Forest → Forest
put (heads.Cell cell children) trees = more (branch (items.Cell cell) (front children trees)) (past children trees)
put (heads.Tile tile children) trees = more (branch (items.Tile tile) (front children trees)) (past children trees)
put (heads.DeadCell cell) trees = more (dead (items.Cell cell)) trees
put (heads.DeadTile tile) trees = more (dead (items.Tile tile)) trees
put (heads.Found number) trees = more (found number) trees
put (heads.Same lemma) trees = more (same lemma) trees
put (heads.Image symmetry lemma) trees = more (image lemma symmetry) trees

-- the trees that have these heads
unfoldable pub trees_in : List Head → Forest
trees_in [] = none
trees_in (head ∷ rest) = put head (trees_in rest)

-- how many children a head says
abbrev pub arity : Head → ℕ
arity (heads.Cell cell children) = children
arity (heads.Tile tile children) = children
arity (heads.DeadCell cell) = 0
arity (heads.DeadTile tile) = 0
arity (heads.Found number) = 0
arity (heads.Same lemma) = 0
arity (heads.Image symmetry lemma) = 0

-- Each head has its children after it, and so these are the heads of trees.
unfoldable pub AreWhole : List Head → Type 0
AreWhole [] = Unit {0}
AreWhole (head ∷ rest) = (arity head ≤ count (trees_in rest)) × AreWhole rest

-- the first tree; with no tree, any
abbrev pub first : Forest → Tree
first none = found 0
first (more tree trees) = tree

-- These are the heads of a tree.
abbrev pub AreOfTree : List Head → Type 0
AreOfTree list = list ≡ heads_of (first (trees_in list))
