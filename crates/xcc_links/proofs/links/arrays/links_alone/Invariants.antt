use Rattle.xcc_links.specs.Rings.{AreAlone}
use Rattle.xcc_links.proofs.links.arrays.links_alone.Given as goal

abbrev pub invariant-loop-node : goal.invariant-loop-node
invariant-loop-node l = AreAlone l.links.items l.node
