use Rattle.xcc_links.proofs.MakingLemmas.{alone_more}
use Rattle.xcc_links.proofs.links.arrays.links_alone.Goals as goal

pub loop-node-preserved : goal.loop-node-preserved
loop-node-preserved c = alone_more c.loop-node.links.items c.loop-node.node _ c.in_ok-push.ensures.items c.loop-node.invariant
