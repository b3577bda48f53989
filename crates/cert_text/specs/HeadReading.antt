-- Trees that are read head by head.
use Rattle.std.specs.Prelude.{◌≡◌, ℕ, List, ◌++◌, Result, Ok, Err}
use Rattle.match_limits.specs.declared.TheConstants.{LAST_ARRANGEMENT, LAST_SYMMETRY, LAST_LEMMA}
use Rattle.text_words.specs.declared.faults.TextFault.{TextFault}
use Rattle.text_words.specs.declared.faults.ReadFault.{ReadFault}
use Rattle.match_limits.specs.declared.ranges.Ranges.{Ranges}
use Rattle.text_words.specs.PlainWords.{number_in}
use Rattle.text_words.specs.Place.{Place, Read, ◌>>=◌, give, word_by, Fails}
use Rattle.cert_tree.specs.declared.heads.Head.{Head}
use Rattle.cert_tree.specs.declared.heads.Head.TheVariants as heads
use Rattle.cert_tree.specs.Tree.{Tree}
use Rattle.cert_tree.specs.Heads.{heads_of, heads_in}
use Rattle.cert_text.specs.declared.tree_readers.NodeKind.{NodeKind}
use Rattle.cert_text.specs.declared.tree_readers.NodeKind.TheVariants.{Cell, Tile, DeadCell, DeadTile, Found, Same}
use Rattle.cert_text.specs.declared.tree_readers.NodeKind.TheVariants.{Image}
use Rattle.cert_text.specs.TreeText.{node_kind_in, forest}

-- ---- a head

-- the greatest number that may follow the letter
abbrev pub most_of : Ranges → NodeKind → ℕ
most_of ranges Cell = ranges.last_cell
most_of ranges Tile = ranges.last_cell
most_of ranges DeadCell = ranges.last_cell
most_of ranges DeadTile = ranges.last_cell
most_of ranges Found = LAST_ARRANGEMENT
most_of ranges Same = LAST_LEMMA
most_of ranges Image = LAST_LEMMA

-- the rest of a head behind that number
unfoldable pub rest_by : Ranges → NodeKind → ℕ → Read Head
rest_by ranges Cell cell = do
  children ← word_by (number_in 1 ranges.most_children)
  give (heads.Cell cell children)
rest_by ranges Tile tile = do
  children ← word_by (number_in 1 ranges.most_children)
  give (heads.Tile tile children)
rest_by ranges DeadCell cell = give (heads.DeadCell cell)
rest_by ranges DeadTile tile = give (heads.DeadTile tile)
rest_by ranges Found number = give (heads.Found number)
rest_by ranges Same lemma = give (heads.Same lemma)
rest_by ranges Image lemma = do
  symmetry ← word_by (number_in 0 LAST_SYMMETRY)
  give (heads.Image symmetry lemma)

-- a node without its children
unfoldable pub head_by : Ranges → Read Head
head_by ranges = do
  kind ← word_by node_kind_in
  number ← word_by (number_in 0 (most_of ranges kind))
  rest_by ranges kind number

-- ---- a tree

-- Reading gives a tree, and its heads went behind the old ones.
abbrev pub ReadsOnto : Result (Unit {0}) ReadFault → Place → (old new : List Head) → Result (Tree × Place) TextFault
    → Type 0
ReadsOnto (Ok _) after old new read = (tree : Tree) × (read ≡ Ok (tree, after)) × (new ≡ old ++ heads_of tree)
ReadsOnto (Err e) after old new read = Fails e read

-- Reading gives several trees, one after the other, and the heads of all of them went behind the old ones.
abbrev pub ReadAllOnto : Result (Unit {0}) ReadFault → Place → (old new : List Head)
    → Result (List Tree × Place) TextFault → Type 0
ReadAllOnto (Ok _) after old new read =
    (trees : List Tree) × (read ≡ Ok (trees, after)) × (new ≡ old ++ heads_in (forest trees))
ReadAllOnto (Err e) after old new read = Fails e read
