use Rattle.std.proofs.Common.{◌≡◌, ◌⊎◌, ◌≤◌, ◌<◌, ℕ, true}
use Rattle.xcc_links.specs.NodeTables.{AreRight, has, start_of}
use Rattle.xcc_links.specs.Trails.{put_back, LeadsBack}
use Rattle.xcc_links.specs.NodeClashes.{ExcludesAt}
use Rattle.xcc_links.proofs.links.arrays.LinkArrays.commit_all.Given as goal

abbrev pub invariant-loop-node : goal.invariant-loop-node
invariant-loop-node l = record {
  from : start_of l.table.starts.items l.option ≤ l.node;
  right : AreRight l.table.items l.table.entries.items l.table.starts.items l.self.links.items l.self.sizes.items l.self.trail.items;
  goes : LeadsBack (put_back l.table.entries.items l.table.starts.items) (l.initial.self.links.items, l.initial.self.sizes.items) l.initial.self.trail.items (l.self.links.items, l.self.sizes.items) l.self.trail.items;
  all : (m : ℕ) → start_of l.table.starts.items l.option ≤ m → m < l.node → (p : ℕ) → ExcludesAt l.table.takable l.table.items l.table.options l.table.entries.items m p → has l.self.trail.items p ≡ true;
  only : (p : ℕ) → has l.self.trail.items p ≡ true → (has l.initial.self.trail.items p ≡ true) ⊎ ((m : ℕ) × (start_of l.table.starts.items l.option ≤ m) × (m < l.node) × ExcludesAt l.table.takable l.table.items l.table.options l.table.entries.items m p);
}
