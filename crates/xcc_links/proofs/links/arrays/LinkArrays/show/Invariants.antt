use Rattle.std.proofs.Common.{◌≡◌, ◌≤◌, ◌-◌}
use Rattle.xcc_links.specs.Rings.{shown_links, shown_sizes}
use Rattle.xcc_links.specs.NodeTables.{AreInRange}
use Rattle.xcc_links.proofs.links.arrays.LinkArrays.show.Given as goal

abbrev pub invariant-loop-node : goal.invariant-loop-node
invariant-loop-node l = record {
  from : l.start ≤ l.node;
  top : l.node ≤ l.initial.node;
  fits : AreInRange l.table.items l.table.entries.items l.self.links.items l.self.sizes.items;
  links : shown_links l.self.links.items l.start (l.node - l.start) ≡ shown_links l.initial.self.links.items l.start (l.initial.node - l.start);
  sizes : shown_sizes l.table.entries.items l.self.sizes.items l.start (l.node - l.start) ≡ shown_sizes l.table.entries.items l.initial.self.sizes.items l.start (l.initial.node - l.start);
  trail : l.self.trail.items ≡ l.initial.self.trail.items;
}

abbrev pub decreases-loop-node : goal.decreases-loop-node
decreases-loop-node l = l.node - l.start
