use Rattle.std.proofs.Common.{◌≡◌, ◌≤◌, length, take, drop}
use Rattle.xcc_links.specs.NodeTables.{AreInRange, AreOptions}
use Rattle.xcc_links.specs.Trails.{put_back, back}
use Rattle.xcc_links.proofs.links.arrays.LinkArrays.show_back.Given as goal

abbrev pub invariant-loop-self : goal.invariant-loop-self
invariant-loop-self l = record {
  within : l.mark ≤ length l.self.trail.items;
  fits : AreInRange l.table.items l.table.entries.items l.self.links.items l.self.sizes.items;
  options : AreOptions l.table.starts.items l.self.trail.items;
  arrays : back (put_back l.table.entries.items l.table.starts.items) (drop l.mark l.self.trail.items) (l.self.links.items, l.self.sizes.items) ≡ back (put_back l.table.entries.items l.table.starts.items) (drop l.mark l.initial.self.trail.items) (l.initial.self.links.items, l.initial.self.sizes.items);
  trail : take l.mark l.self.trail.items ≡ take l.mark l.initial.self.trail.items;
}

abbrev pub decreases-loop-self : goal.decreases-loop-self
decreases-loop-self l = length l.self.trail.items
