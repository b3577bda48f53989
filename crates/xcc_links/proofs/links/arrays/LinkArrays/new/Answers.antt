use Rattle.std.proofs.Common.{◌≡◌, length, arith, subst}
use Rattle.xcc_links.specs.Rings.{AreAlone}
use Rattle.xcc_links.proofs.links.arrays.LinkArrays.new.Goals as goal

pub link_all-requires-clause-alone : goal.link_all-requires-clause-alone
link_all-requires-clause-alone c =
    let f = c.args.table.now in
    let nodes : c.len-nodes.result ≡ length f.entries.items = omega (arith, c.len-nodes.ensures, f.entries.ok.0) in
    subst (λ n. AreAlone c.in_ok-links.links.items n) nodes c.in_ok-links.ensures

pub link_all-requires-clause-sizes : goal.link_all-requires-clause-sizes
link_all-requires-clause-sizes c = c.in_ok-sizes.ensures.items_if_clones_equal (λ _ same. same)
