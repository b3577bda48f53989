use Rattle.std.proofs.Common.{◌≡◌, ◌⊎◌, ℕ, true, length}
use Rattle.xcc_links.specs.Rings.{colour_of}
use Rattle.xcc_links.specs.NodeTables.{AreRight, has}
use Rattle.xcc_links.specs.Trails.{put_back, LeadsBack}
use Rattle.xcc_links.specs.NodeClashes.{HasOtherColour}
use Rattle.xcc_links.proofs.NodeWords.{IsWalking, left_to}
use Rattle.xcc_links.proofs.links.arrays.LinkArrays.purify.Given as goal

abbrev pub invariant-loop-node : goal.invariant-loop-node
invariant-loop-node l = record {
  right : AreRight l.table.items l.table.entries.items l.table.starts.items l.self.links.items l.self.sizes.items l.self.trail.items;
  goes : LeadsBack (put_back l.table.entries.items l.table.starts.items) (l.initial.self.links.items, l.initial.self.sizes.items) l.initial.self.trail.items (l.self.links.items, l.self.sizes.items) l.self.trail.items;
  at : IsWalking l.table.items l.table.entries.items l.self.trail.items l.item (λ n. colour_of l.table.entries.items n ≡ l.colour) l.node;
  only : (p : ℕ) → has l.self.trail.items p ≡ true → (has l.initial.self.trail.items p ≡ true) ⊎ HasOtherColour l.table.items l.table.entries.items l.item l.colour p;
}

abbrev pub decreases-loop-node : goal.decreases-loop-node
decreases-loop-node l = left_to (length l.table.entries.items) l.item l.node
