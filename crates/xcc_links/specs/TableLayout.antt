-- How the nodes of a compiled puzzle are laid out.
use Rattle.std.specs.Prelude.{◌≡◌, ◌<◌, ◌≤◌, ◌+◌, ◌-◌, ℕ, List, Some, length, drop, slice_get, slice_index_or}
use Rattle.match_board.specs.Board.{cell_count}
use Rattle.xcc_form.specs.ExactCover.{entry_count}
use Rattle.xcc_form.specs.Options.{Compiled, Choice, cover_of, entries_of, item_count, primary_count}
use Rattle.xcc_form.specs.declared.edges.Edge.{Edge}
use Rattle.xcc_links.specs.declared.links.tables.Entry.{Entry}
use Rattle.xcc_links.specs.declared.links.tables.NodeTable.{NodeTable}
use Rattle.xcc_links.specs.Rings.{no_entry, item_of, option_of}
use Rattle.xcc_links.specs.NodeTables.{AreRuns, IsNodeTable, start_of}

-- an item's own node
abbrev pub own_entry : ℕ → Entry
own_entry item = record { item = item; option = 0; colour = 0 }

-- an option's node at an item that it takes
abbrev pub taken_entry : (option item : ℕ) → Entry
taken_entry option item = record { item = item; option = option; colour = 0 }

-- an option's node at an edge
abbrev pub edge_entry : (option : ℕ) → Edge → Entry
edge_entry option e = record { item = e.item; option = option; colour = e.colour }

-- The option's nodes stand from its start up to its end: those of its cell and its tile, then those of its edges.
pub record AreNodesOf (cells option : ℕ) (c : Choice) (entries : List Entry) (start end : ℕ) : Type 0 where
  pub width : end ≡ start + 2 + length c.edges
  pub cell : slice_index_or entries start no_entry ≡ taken_entry option c.pair.cell
  pub tile : slice_index_or entries (start + 1) no_entry ≡ taken_entry option (cells + c.pair.placement.tile)
  pub edge : (k : ℕ) (e : Edge) → slice_get c.edges k ≡ Some e
      → slice_index_or entries (start + 2 + k) no_entry ≡ edge_entry option e

-- The node of the root's list that stands for an item lies alone, after those before it.
pub record IsRootNode (root options : ℕ) (entries : List Entry) (starts : List ℕ) (item : ℕ) : Type 0 where
  pub entry : slice_index_or entries (start_of starts (options + item)) no_entry ≡ taken_entry (options + item) root
  pub width : start_of starts (options + item + 1) ≡ start_of starts (options + item) + 1

-- Laid out are the items' own nodes, those of the first `options` options, and the first `roots` of the root's list.
pub record IsLaidOutTo (x : Compiled) (items options roots : ℕ) (entries : List Entry) (starts : List ℕ) : Type 0 where
  pub starts_long : length starts ≡ options + roots + 1
  pub long : length entries + entry_count (drop options (cover_of x).options) ≡ items + entries_of x + roots
  pub own : (item : ℕ) → item < items → slice_index_or entries item no_entry ≡ own_entry item
  pub runs : AreRuns items entries starts
  pub nodes : (option : ℕ) (c : Choice) → option < options → slice_get x.options option ≡ Some c
      → AreNodesOf (cell_count x.puzzle.board) option c entries (start_of starts option) (start_of starts (option + 1))
  pub root : (item : ℕ) → item < roots → IsRootNode (items - 1) options entries starts item

-- The nodes are those of the compiled puzzle.
pub record IsTableOf (x : Compiled) (t : NodeTable) : Type 0 where
  pub primaries : t.primaries ≡ primary_count x.puzzle
  pub takable : t.takable ≡ item_count x.puzzle
  pub items : t.items ≡ item_count x.puzzle + length x.shared + 1
  pub options : t.options ≡ length x.options
  pub table : IsNodeTable t.takable t.items t.options t.entries.items t.starts.items
  pub own : (item : ℕ) → item < t.items → slice_index_or t.entries.items item no_entry ≡ own_entry item
  pub nodes : (option : ℕ) (c : Choice) → slice_get x.options option ≡ Some c
      → AreNodesOf (cell_count x.puzzle.board) option c t.entries.items (start_of t.starts.items option)
      (start_of t.starts.items (option + 1))
  pub root : (item : ℕ) → item < t.takable → IsRootNode (t.items - 1) t.options t.entries.items t.starts.items item

-- The node is the option's at the item.
pub record IsNodeAt (t : NodeTable) (option item node : ℕ) : Type 0 where
  pub from : t.items ≤ node
  pub to : node < length t.entries.items
  pub of : option_of t.entries.items node ≡ option
  pub at : item_of t.entries.items node ≡ item
