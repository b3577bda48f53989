use Rattle.std.proofs.Common.{◌≡◌, ◌≤◌, ◌-◌}
use Rattle.xcc_links.specs.Rings.{hidden_links, hidden_sizes}
use Rattle.xcc_links.specs.NodeTables.{AreInRange, start_of}
use Rattle.xcc_links.proofs.links.arrays.LinkArrays.hide.Given as goal

abbrev pub invariant-loop-node : goal.invariant-loop-node
invariant-loop-node l = record {
  from : start_of l.table.starts.items l.option ≤ l.node;
  fits : AreInRange l.table.items l.table.entries.items l.self.links.items l.self.sizes.items;
  links : l.self.links.items ≡ hidden_links l.initial.self.links.items (start_of l.table.starts.items l.option) (l.node - start_of l.table.starts.items l.option);
  sizes : l.self.sizes.items ≡ hidden_sizes l.table.entries.items l.initial.self.sizes.items (start_of l.table.starts.items l.option) (l.node - start_of l.table.starts.items l.option);
  trail : l.self.trail.items ≡ l.initial.self.trail.items;
}
