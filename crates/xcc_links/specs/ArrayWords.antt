-- Link arrays over the nodes of a table.
use Rattle.std.specs.Prelude.{◌≡◌, ◌<◌, ◌≤◌, ◌+◌, ℕ, true, false, length}
use Rattle.xcc_links.specs.Rings.{item_of}
use Rattle.xcc_links.specs.NodeTables.{IsNodeTable, AreInRange, AreRight, has, start_of}
use Rattle.xcc_links.specs.NodeClashes.{HasOtherColour, ExcludesAt, Excludes}
use Rattle.xcc_links.specs.Trails.{Arrays, put_back, LeadsBack}
use Rattle.xcc_links.specs.declared.links.arrays.LinkArrays.{LinkArrays}
use Rattle.xcc_links.specs.declared.links.tables.NodeTable.{NodeTable}

-- It is a table of nodes.
abbrev pub IsTable : NodeTable → Type 0
IsTable t = IsNodeTable t.takable t.items t.options t.entries.items t.starts.items

-- There is this option of the table, of the puzzle or of the root's list.
abbrev pub HasOption : NodeTable → (option : ℕ) → Type 0
HasOption t option = option + 1 < length t.starts.items

-- the item of a node
abbrev pub item_at : NodeTable → (node : ℕ) → ℕ
item_at t node = item_of t.entries.items node

-- the links and the sizes
abbrev pub arrays_of : LinkArrays → Arrays
arrays_of a = (a.links.items, a.sizes.items)

-- The arrays fit the table.
abbrev pub FitTable : NodeTable → LinkArrays → Type 0
FitTable t a = AreInRange t.items t.entries.items a.links.items a.sizes.items

-- The lists have just the nodes of the options that aren't hidden, in order, and the sizes tell how many.
abbrev pub ListTheOpen : NodeTable → LinkArrays → Type 0
ListTheOpen t a = AreRight t.items t.entries.items t.starts.items a.links.items a.sizes.items a.trail.items

-- The option is hidden.
abbrev pub IsHidden : LinkArrays → (option : ℕ) → Type 0
IsHidden a option = has a.trail.items option ≡ true

-- The node's item is not covered, where it is a takable one: its node in the root's list isn't hidden.
abbrev pub HasUncoveredItem : NodeTable → LinkArrays → (node : ℕ) → Type 0
HasUncoveredItem t a node = item_at t node < t.takable → has a.trail.items (t.options + item_at t node) ≡ false

-- No item that the option takes is covered.
abbrev pub HasUncoveredItems : NodeTable → LinkArrays → (option : ℕ) → Type 0
HasUncoveredItems t a option = (node : ℕ) → start_of t.starts.items option ≤ node
    → node < start_of t.starts.items (option + 1) → HasUncoveredItem t a node

-- the arrays with the option's nodes put back
abbrev pub with_back : NodeTable → (option : ℕ) → Arrays → Arrays
with_back t = put_back t.entries.items t.starts.items

-- What was hidden since leads back to the arrays as they were.
abbrev pub CanGoBack : NodeTable → (old new : LinkArrays) → Type 0
CanGoBack t old new = LeadsBack (with_back t) (arrays_of old) old.trail.items (arrays_of new) new.trail.items

-- The option has the item, with another colour than this.
abbrev pub DiffersAt : NodeTable → (item colour option : ℕ) → Type 0
DiffersAt t item colour option = HasOtherColour t.items t.entries.items item colour option

-- Choosing the option of the node excludes this option by the node's item.
abbrev pub IsExcludedAt : NodeTable → (node option : ℕ) → Type 0
IsExcludedAt t node option = ExcludesAt t.takable t.items t.options t.entries.items node option

-- Choosing the one option excludes the other.
abbrev pub IsExcludedBy : NodeTable → (chosen option : ℕ) → Type 0
IsExcludedBy t chosen option = Excludes t.takable t.items t.options t.entries.items chosen option
