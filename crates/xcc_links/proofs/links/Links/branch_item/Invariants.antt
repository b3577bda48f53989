use Rattle.std.proofs.Common.{length}
use Rattle.xcc_links.proofs.NodeWords.{left_to}
use Rattle.xcc_links.proofs.BranchItemLemmas.{IsBestSoFar}
use Rattle.xcc_links.proofs.links.Links.branch_item.Given as goal

abbrev pub invariant-loop-node : goal.invariant-loop-node
invariant-loop-node l = IsBestSoFar l.self-inside.table.primaries l.self-inside.table.items l.self-inside.table.entries.items l.self-inside.arrays.trail.items l.self-inside.arrays.sizes.items l.root l.first l.best l.fewest l.node

abbrev pub decreases-loop-node : goal.decreases-loop-node
decreases-loop-node l = left_to (length l.self-inside.table.entries.items) l.root l.node
