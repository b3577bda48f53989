-- The nodes are put into their lists one after another.
use Rattle.std.specs.Prelude.{◌≤◌, ◌&&◌, not, ℕ, Bool, List, length, nat_lt}
use Rattle.xcc_links.specs.declared.links.arrays.Link.{Link}
use Rattle.xcc_links.specs.declared.links.tables.Entry.{Entry}
use Rattle.xcc_links.specs.NodeTables.{AreLinked, AreCounted, AreInRange}

-- the option nodes below n
unfoldable pub first_nodes : ℕ → ℕ → ℕ → Bool
first_nodes items n k = not (nat_lt k items) && nat_lt k n

-- The nodes below n stand in their lists.
pub record IsBuilt (items : ℕ) (entries : List Entry) (links : List Link) (sizes : List ℕ) (n : ℕ) : Type 0 where
  pub from : items ≤ n
  pub to : n ≤ length entries
  pub fits : AreInRange items entries links sizes
  pub kept : AreLinked items entries (first_nodes items n) links
  pub counted : AreCounted items entries (first_nodes items n) sizes
