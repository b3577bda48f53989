-- Nodes as plain data.
use Rattle.std.proofs.Common.{◌≡◌, ℕ, ◌+◌, List, [], ◌∷◌, length, ap, sym, ◌∙◌, refl, arith, Vec, Global, ◌<◌, drop, get_or, drop-cons, add-one}
use mathlib.Core.Former.{Count}
use Rattle.match_puzzle.specs.declared.items.Item.TheVariants as items
use Rattle.cert_tree.specs.declared.nodes.Node.{Node, Cell, Tile, Cell', Tile', DeadCell, DeadTile, Found, Same, Image, Row_of-Node, end_of-Node, more_of-Node, items-the_row-Node, items_hidden-the_row-Node-0}
use Rattle.cert_tree.specs.declared.nodes.Children.{Children}
use Rattle.cert_tree.specs.Tree.{branch, dead, found, same, image, more, count, tree_of, trees_of, forest_of}

trees_of-row : (n : _) (row : Row_of-Node n) → trees_of row ≡ forest_of (items-the_row-Node n row)
unfolding trees_of
trees_of-row n end_of-Node = refl
trees_of-row n (more_of-Node node rest) = ap (more (tree_of node)) (trees_of-row _ rest)

abbrev row_of : Node → (n : Count) × Row_of-Node n
row_of (Cell' cell shape row) = (_, row)
row_of (Tile' tile shape row) = (_, row)
row_of _ = (_, end_of-Node)

-- the children of a branch, as a list
children_of : (nodes : Vec Node Global) (node : Node) → items-the_row-Node (row_of node).0 (row_of node).1 ≡ nodes.items → trees_of (row_of node).1 ≡ forest_of nodes.items
children_of nodes node e = trees_of-row (row_of node).0 (row_of node).1 ∙ ap forest_of e

-- ---- each kind of node

pub tree_of-Cell : (cell : ℕ) (children : Children) → tree_of (Cell cell children) ≡ branch (items.Cell cell) (forest_of children.nodes.items)
unfolding tree_of
tree_of-Cell cell children = ap (branch (items.Cell cell)) (children_of children.nodes (Cell cell children) (items_hidden-the_row-Node-0 children.nodes))

pub tree_of-Tile : (tile : ℕ) (children : Children) → tree_of (Tile tile children) ≡ branch (items.Tile tile) (forest_of children.nodes.items)
unfolding tree_of
tree_of-Tile tile children = ap (branch (items.Tile tile)) (children_of children.nodes (Tile tile children) (items_hidden-the_row-Node-0 children.nodes))

pub tree_of-DeadCell : (cell : ℕ) → tree_of (DeadCell cell) ≡ dead (items.Cell cell)
unfolding tree_of
tree_of-DeadCell cell = refl

pub tree_of-DeadTile : (tile : ℕ) → tree_of (DeadTile tile) ≡ dead (items.Tile tile)
unfolding tree_of
tree_of-DeadTile tile = refl

pub tree_of-Found : (number : ℕ) → tree_of (Found number) ≡ found number
unfolding tree_of
tree_of-Found number = refl

pub tree_of-Same : (lemma : ℕ) → tree_of (Same lemma) ≡ same lemma
unfolding tree_of
tree_of-Same lemma = refl

pub tree_of-Image : (lemma symmetry : ℕ) → tree_of (Image lemma symmetry) ≡ image lemma symmetry
unfolding tree_of
tree_of-Image lemma symmetry = refl

-- ---- the children

pub count-forest_of : (nodes : List Node) → count (forest_of nodes) ≡ length nodes
count-forest_of [] = refl
count-forest_of (node ∷ nodes) = omega (arith, count-forest_of nodes)

-- the children from one on
pub forest_of-drop : (nodes : List Node) (i : ℕ) (d : Node) → i < length nodes → forest_of (drop i nodes) ≡ more (tree_of (get_or nodes i d)) (forest_of (drop (i + 1) nodes))
forest_of-drop nodes i d lt = ap forest_of (drop-cons nodes i d lt) ∙ ap (λ k. more (tree_of (get_or nodes i d)) (forest_of (drop k nodes))) (sym (add-one i))

-- a node by its kind
pub ruleset tree_laws = (tree_of-Cell, tree_of-Tile, tree_of-DeadCell, tree_of-DeadTile, tree_of-Found, tree_of-Same, tree_of-Image)
