use Rattle.std.proofs.Common.{◌≡◌, ◌<◌, ◌+◌, ◌-◌, ◌∙◌, List, ℕ, length, arith, ap, sym, subst}
use Rattle.std.proofs.lemmas.List.{get_or_read}
use Rattle.xcc_links.specs.Rings.{item_of, shown_links, shown_sizes}
use Rattle.xcc_links.specs.NodeTables.{AreInRange}
use Rattle.xcc_links.specs.declared.links.arrays.Link.{Link}
use Rattle.xcc_links.proofs.HidingLemmas.{fits_relinked, show_step, show_size_step}
use Rattle.xcc_links.proofs.links.arrays.LinkArrays.show.Goals as goal

pub loop-node-preserved : goal.loop-node-preserved
loop-node-preserved c =
    let i = c.loop-node.invariant in
    let f = c.args.table.now in
    let n = c.loop-node.node in
    let a = c.index-start.result.now in
    let lt : a < n = omega arith in
    let e = c.relink.ensures in
    let high = c.requires.table.runs.high (c.args.option + 1) c.requires.option in
    let z = get_or_read f.starts.items (c.args.option + 1) c.index-node.result.now (omega (arith, c.requires.option)) c.index-node.ensures 0 in
    let low : n - 1 < length c.loop-node.self.links.items = omega (arith, i.fits.long, high, z, i.top, lt) in
    record {
      from = omega (arith, lt);
      top = omega (arith, i.top);
      fits = moved f.items f.entries.items _ _ _ _ e.links e.sizes (fits_relinked f.items f.entries.items c.loop-node.self.links.items c.loop-node.self.sizes.items i.fits (n - 1) (item_of f.entries.items (n - 1)) low);
      links = ap (λ l. shown_links l a (n - 1 - a)) e.links ∙ sym (show_step c.loop-node.self.links.items a n lt) ∙ i.links;
      sizes = ap (λ l. shown_sizes f.entries.items l a (n - 1 - a)) e.sizes ∙ sym (show_size_step f.entries.items c.loop-node.self.sizes.items a n lt) ∙ i.sizes;
      trail = e.trail ∙ i.trail;
    }
  where
    moved : (items : ℕ) (entries : _) (l l' : List Link) (s s' : List ℕ) → l' ≡ l → s' ≡ s → AreInRange items entries l s → AreInRange items entries l' s'
    moved items entries l l' s s' el es h = subst (λ x. AreInRange items entries x s') (sym el) (subst (λ x. AreInRange items entries l x) (sym es) h)
