use Rattle.std.proofs.Common.{◌≡◌, []}
use Rattle.xcc_links.proofs.MakingWords.{IsBuilt}
use Rattle.xcc_links.proofs.links.arrays.LinkArrays.link_all.Given as goal

abbrev pub invariant-loop-node : goal.invariant-loop-node
invariant-loop-node l = record {
  built : IsBuilt l.table.items l.table.entries.items l.self.links.items l.self.sizes.items l.node;
  trail : l.self.trail.items ≡ [];
}
