use Rattle.std.proofs.Common.{refl}
use Rattle.xcc_links.proofs.RingLemmas.{joined_is}
use Rattle.xcc_links.proofs.links.arrays.LinkArrays.relink.Goals as goal

pub returns-clause-links : goal.returns-clause-links
returns-clause-links c =
    let i = c.requires.inside in
    let m = c.args.node in
    joined_is c.args.self.now.links.items _ _ c.index-link.result.now c.index-above.result.now c.index-below.result.now m m m c.requires.node (i.up m c.requires.node) (i.down m c.requires.node) c.index-link.ensures c.index-above.ensures c.index-below.ensures refl refl
