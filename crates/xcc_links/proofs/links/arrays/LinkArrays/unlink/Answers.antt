use Rattle.std.proofs.Common.{refl}
use Rattle.xcc_links.proofs.RingLemmas.{joined_is, down_is, up_is}
use Rattle.xcc_links.specs.Rings.{joined, up_of, down_of}
use Rattle.std.proofs.Common.{ap, ◌∙◌}
use Rattle.xcc_links.proofs.links.arrays.LinkArrays.unlink.Goals as goal

pub returns-clause-links : goal.returns-clause-links
returns-clause-links c =
    let l = c.args.self.now.links.items in
    let i = c.requires.inside in
    let m = c.args.node in
    let iu = i.up m c.requires.node in
    let id = i.down m c.requires.node in
    let link = c.index-link.result.now in
    let r = c.index-link.ensures in
    let e = joined_is l _ _ link c.index-above.result.now c.index-below.result.now m link.down link.up c.requires.node iu id r c.index-above.ensures c.index-below.ensures refl refl in
    e ∙ ap (λ x. joined l (up_of l m) (down_of l m) x link.up) (down_is l _ _ link c.index-above.result.now c.index-below.result.now m link.down link.up c.requires.node iu id r c.index-above.ensures c.index-below.ensures refl refl)
    ∙ ap (λ x. joined l (up_of l m) (down_of l m) (down_of l m) x) (up_is l _ _ link c.index-above.result.now c.index-below.result.now m link.down link.up c.requires.node iu id r c.index-above.ensures c.index-below.ensures refl refl)
