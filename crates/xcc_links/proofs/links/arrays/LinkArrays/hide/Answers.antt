use Rattle.std.proofs.Common.{◌≡◌, ◌≤◌, ◌<◌, ◌+◌, ◌-◌, ◌∙◌, List, ℕ, length, get_or, arith, ap, sym, subst}
use Rattle.std.proofs.lemmas.List.{get_or_read}
use Rattle.xcc_links.specs.Rings.{item_of, unlinked, fewer_at, hidden_links, hidden_sizes}
use Rattle.xcc_links.specs.NodeTables.{AreInRange, shown_by, start_of, width_of}
use Rattle.xcc_links.specs.declared.links.arrays.Link.{Link}
use Rattle.xcc_links.specs.declared.links.tables.Entry.{Entry}
use Rattle.xcc_links.proofs.LinkedLemmas.{can_size}
use Rattle.xcc_links.proofs.HidingLemmas.{rise, end_is, nodes_shown, right_hidden, goes_hidden, fits_unlinked, hide_step, hide_size_step}
use Rattle.xcc_links.proofs.links.arrays.LinkArrays.hide.Goals as goal
use Rattle.xcc_links.proofs.links.arrays.LinkArrays.hide.Goals.{After-loop-node}

moved : (items : ℕ) (entries : List Entry) (l l' : List Link) (s s' : List ℕ) → l' ≡ l → s' ≡ s → AreInRange items entries l s → AreInRange items entries l' s'
moved items entries l l' s s' el es h = subst (λ x. AreInRange items entries x s') (sym el) (subst (λ x. AreInRange items entries l x) (sym es) h)

pub unlink-requires-clause-some : goal.unlink-requires-clause-some
unlink-requires-clause-some c =
    let f = c.args.table.now in
    let s = c.args.self.now in
    let a = start_of f.starts.items c.args.option in
    let n = c.loop-node.node in
    let i = c.loop-node.invariant in
    let z = get_or_read f.starts.items (c.args.option + 1) c.index-node-end.result.now (omega (arith, c.requires.option)) c.index-node-end.ensures 0 in
    let w = end_is f.takable f.items f.options f.entries.items f.starts.items c.requires.table s.trail.items c.args.option c.requires.option c.requires.free in
    let lt : n - a < width_of f.starts.items c.args.option = omega (arith, z, i.from) in
    let e : a + (n - a) ≡ n = omega (arith, i.from) in
    let h = can_size f.takable f.items f.options f.entries.items f.starts.items c.requires.table (shown_by f.items f.entries.items s.trail.items) s.links.items s.sizes.items c.requires.right.kept c.requires.right.counted a (width_of f.starts.items c.args.option) (nodes_shown f.takable f.items f.options f.entries.items f.starts.items c.requires.table s.trail.items c.args.option c.requires.option c.requires.free) (n - a) lt in
    let h2 = subst (λ k. 1 ≤ get_or (hidden_sizes f.entries.items s.sizes.items a (n - a)) (item_of f.entries.items k) 0) e h in
    subst (λ (x : List ℕ). 0 < get_or x (item_of f.entries.items n) 0) (sym i.sizes) (omega (arith, h2))

pub loop-node-preserved : goal.loop-node-preserved
loop-node-preserved c =
    let f = c.args.table.now in
    let s = c.args.self.now in
    let a = start_of f.starts.items c.args.option in
    let n = c.loop-node.node in
    let i = c.loop-node.invariant in
    let e = c.unlink.ensures in
    let z = get_or_read f.starts.items (c.args.option + 1) c.index-node-end.result.now (omega (arith, c.requires.option)) c.index-node-end.ensures 0 in
    let high = c.requires.table.runs.high (c.args.option + 1) c.requires.option in
    let low : n < length c.loop-node.self.links.items = omega (arith, i.fits.long, high, z) in
    record {
      from = omega (arith, i.from);
      fits = moved f.items f.entries.items _ _ _ _ e.links e.sizes (fits_unlinked f.items f.entries.items c.loop-node.self.links.items c.loop-node.self.sizes.items i.fits n (item_of f.entries.items n) low);
      links = e.links ∙ ap (λ l. unlinked l n) i.links ∙ sym (hide_step s.links.items a n i.from);
      sizes = e.sizes ∙ ap (λ l. fewer_at l (item_of f.entries.items n)) i.sizes ∙ sym (hide_size_step f.entries.items s.sizes.items a n i.from);
      trail = e.trail ∙ i.trail;
    }

-- all nodes of the option are taken out
width : (c : After-loop-node) → c.loop-node.node - start_of c.args.table.now.starts.items c.args.option ≡ width_of c.args.table.now.starts.items c.args.option
width c =
    let f = c.args.table.now in
    let y = get_or_read f.starts.items c.args.option c.index-node.result.now (omega (arith, c.requires.option)) c.index-node.ensures 0 in
    let z = get_or_read f.starts.items (c.args.option + 1) c.index-node-end.result.now (omega (arith, c.requires.option)) c.index-node-end.ensures 0 in
    let r = rise f.takable f.items f.options f.entries.items f.starts.items c.requires.table c.args.self.now.trail.items c.args.option c.requires.option c.requires.free in
    let up = c.loop-node.auto.node-end (omega (arith, y, z, r)) in
    omega (arith, y, z, r, up)

links : (c : After-loop-node) → c.loop-node.self.links.items ≡ hidden_links c.args.self.now.links.items (start_of c.args.table.now.starts.items c.args.option) (width_of c.args.table.now.starts.items c.args.option)
links c = c.loop-node.invariant.links ∙ ap (hidden_links c.args.self.now.links.items (start_of c.args.table.now.starts.items c.args.option)) (width c)

sizes : (c : After-loop-node) → c.loop-node.self.sizes.items ≡ hidden_sizes c.args.table.now.entries.items c.args.self.now.sizes.items (start_of c.args.table.now.starts.items c.args.option) (width_of c.args.table.now.starts.items c.args.option)
sizes c = c.loop-node.invariant.sizes ∙ ap (hidden_sizes c.args.table.now.entries.items c.args.self.now.sizes.items (start_of c.args.table.now.starts.items c.args.option)) (width c)

pub returns-clause-right : goal.returns-clause-right
returns-clause-right c =
    let f = c.args.table.now in
    let s = c.args.self.now in
    let at = (goal.at.returns-clause-right c).After-loop-node in
    let i = c.loop-node.invariant in
    let h = right_hidden f.takable f.items f.options f.entries.items f.starts.items c.requires.table s.trail.items c.args.option c.requires.option c.requires.free s.links.items s.sizes.items c.requires.right (moved f.items f.entries.items _ _ _ _ (sym (links at)) (sym (sizes at)) i.fits) in
    rw (links at, sizes at, i.trail, c.in_ok-push.ensures.items) h

pub returns-clause-goes : goal.returns-clause-goes
returns-clause-goes c =
    let f = c.args.table.now in
    let s = c.args.self.now in
    let at = (goal.at.returns-clause-goes c).After-loop-node in
    let g = goes_hidden f.takable f.items f.options f.entries.items f.starts.items c.requires.table s.trail.items c.args.option c.requires.option c.requires.free s.links.items s.sizes.items c.requires.right in
    rw (links at, sizes at, c.loop-node.invariant.trail, c.in_ok-push.ensures.items) g
