-- How a tree is read.
use Rattle.std.specs.Prelude.{ℕ, zero, suc, List, [], ◌∷◌, Result, Ok, Err, codes, if◌then◌else◌}
use Rattle.match_limits.specs.declared.TheConstants.{LAST_ARRANGEMENT, LAST_SYMMETRY, LAST_LEMMA}
use Rattle.std.specs.Str.{bytes_eq}
use Rattle.match_puzzle.specs.declared.items.Item.TheVariants as items
use Rattle.text_words.specs.declared.faults.TextFault.{TextFault}
use Rattle.text_words.specs.declared.faults.TextKind.{TextKind}
use Rattle.text_words.specs.declared.faults.TextKind.TheVariants.{Word, TooDeep}
use Rattle.match_limits.specs.declared.ranges.Ranges.{Ranges}
use Rattle.text_words.specs.PlainWords.{number_in}
use Rattle.text_words.specs.Place.{Place, Read, ◌>>=◌, give, fail, word_by, times}
use Rattle.cert_tree.specs.Tree.{Tree, Forest, branch, dead, found, same, image, none, more}
use Rattle.cert_text.specs.declared.tree_readers.NodeKind.{NodeKind}
use Rattle.cert_text.specs.declared.tree_readers.NodeKind.TheVariants.{Cell, Tile, DeadCell, DeadTile, Found, Same}
use Rattle.cert_text.specs.declared.tree_readers.NodeKind.TheVariants.{Image}

-- the kinds of node by their letters
abbrev pub node_kind_in : List ℕ → Result NodeKind TextKind
node_kind_in word =
    if bytes_eq word (codes "c") then Ok Cell
    else (if bytes_eq word (codes "t") then Ok Tile
    else (if bytes_eq word (codes "d") then Ok DeadCell
    else (if bytes_eq word (codes "e") then Ok DeadTile
    else (if bytes_eq word (codes "f") then Ok Found
    else (if bytes_eq word (codes "s") then Ok Same
    else (if bytes_eq word (codes "i") then Ok Image else Err Word))))))

-- trees one after the other
abbrev pub forest : List Tree → Forest
forest [] = none
forest (tree ∷ trees) = more tree (forest trees)

-- how many children there are, and the children
unfoldable pub children_by : Ranges → Read Tree → Read Forest
children_by ranges child = do
  count ← word_by (number_in 1 ranges.most_children)
  trees ← times count child
  give (forest trees)

-- the rest of a node of this kind
unfoldable pub node_by : Ranges → Read Tree → NodeKind → Read Tree
node_by ranges child Cell = do
  cell ← word_by (number_in 0 ranges.last_cell)
  children ← children_by ranges child
  give (branch (items.Cell cell) children)
node_by ranges child Tile = do
  tile ← word_by (number_in 0 ranges.last_cell)
  children ← children_by ranges child
  give (branch (items.Tile tile) children)
node_by ranges child DeadCell = do
  cell ← word_by (number_in 0 ranges.last_cell)
  give (dead (items.Cell cell))
node_by ranges child DeadTile = do
  tile ← word_by (number_in 0 ranges.last_cell)
  give (dead (items.Tile tile))
node_by ranges child Found = do
  number ← word_by (number_in 0 LAST_ARRANGEMENT)
  give (found number)
node_by ranges child Same = do
  lemma ← word_by (number_in 0 LAST_LEMMA)
  give (same lemma)
node_by ranges child Image = do
  lemma ← word_by (number_in 0 LAST_LEMMA)
  symmetry ← word_by (number_in 0 LAST_SYMMETRY)
  give (image lemma symmetry)

-- a node below the last level
abbrev pub too_deep_from : ℕ → List (List ℕ) → Result (Tree × Place) TextFault
too_deep_from line [] = fail line Word
too_deep_from line (word ∷ words) = fail line TooDeep

-- a tree of up to `room` levels, each node before its children
unfoldable pub tree_by : Ranges → ℕ → Read Tree
tree_by ranges zero p = too_deep_from p.line p.words
tree_by ranges (suc room) p = (word_by node_kind_in >>= node_by ranges (tree_by ranges room)) p
