use Rattle.std.proofs.Common.{◌≡◌, ◌<◌, ◌+◌, ◌∙◌, List, ℕ, length, set, arith, ap, sym, subst}
use Rattle.std.proofs.lemmas.List.{get_or_read}
use Rattle.xcc_links.specs.Rings.{no_link, no_entry, up_of, item_of}
use Rattle.xcc_links.specs.NodeTables.{AreRight}
use Rattle.xcc_links.proofs.MakingWords.{IsBuilt}
use Rattle.xcc_links.specs.declared.links.arrays.Link.{Link}
use Rattle.xcc_links.specs.declared.links.tables.Entry.{Entry}
use Rattle.xcc_links.proofs.MakingLemmas.{items_in, built_first, inside0, built_more, built_right}
use Rattle.xcc_links.proofs.links.arrays.LinkArrays.link_all.Goals as goal
use Rattle.xcc_links.proofs.links.arrays.LinkArrays.link_all.Goals.{After-index-in-loop-node}

pub loop-node-init : goal.loop-node-init
loop-node-init c =
    let f = c.args.table.now in
    let w = c.args.self.now in
    record {
      built = built_first f.takable f.items f.options f.entries.items f.starts.items c.requires.table w.links.items w.sizes.items c.requires.alone c.requires.sizes;
      trail = c.requires.trail;
    }

within : (c : After-index-in-loop-node) → c.loop-node.node < length c.args.table.now.entries.items
within c = omega (arith, c.len-nodes.ensures, c.args.table.now.entries.ok.0)

-- the links with the node between the last one of its list and the item's own
placed : (c : After-index-in-loop-node) →
    let f = c.args.table.now in
    let ls = c.loop-node.self.links.items in
    let m = c.loop-node.node in
    set ls m (record { up = c.index-in-loop-node.result.now.up; down = c.index.result.now.item }) ≡ set ls m (record { up = up_of ls (item_of f.entries.items m); down = item_of f.entries.items m })
placed c =
    let f = c.args.table.now in
    let b = c.loop-node.invariant.built in
    let ls = c.loop-node.self.links.items in
    let m = c.loop-node.node in
    let entry = ap (λ (x : Entry). x.item) (get_or_read f.entries.items m c.index.result.now (within c) c.index.ensures no_entry) in
    let up = ap (λ (x : Link). x.up) (get_or_read ls c.index.result.now.item c.index-in-loop-node.result.now (omega (arith, entry, c.requires.table.small m, b.kept.own_high, b.fits.long)) c.index-in-loop-node.ensures no_link) ∙ ap (up_of ls) entry in
    ap (λ k. set ls m (record { up = k; down = c.index.result.now.item })) up ∙ ap (λ k. set ls m (record { up = up_of ls (item_of f.entries.items m); down = k })) entry

pub relink-requires-clause-inside : goal.relink-requires-clause-inside
relink-requires-clause-inside c =
    let f = c.args.table.now in
    let t = c.loop-node.self in
    let at = (goal.at.relink-requires-clause-inside c).After-index-in-loop-node in
    inside0 f.takable f.items f.options f.entries.items f.starts.items c.requires.table t.links.items t.sizes.items c.loop-node.node c.loop-node.invariant.built (within at) _ (placed at)

moved : (items : ℕ) (entries : List Entry) (l l' : List Link) (s s' : List ℕ) (n : ℕ) → l' ≡ l → s' ≡ s → IsBuilt items entries l s n → IsBuilt items entries l' s' n
moved items entries l l' s s' n el es h = subst (λ x. IsBuilt items entries x s' n) (sym el) (subst (λ x. IsBuilt items entries l x n) (sym es) h)

pub loop-node-preserved : goal.loop-node-preserved
loop-node-preserved c =
    let f = c.args.table.now in
    let t = c.loop-node.self in
    let m = c.loop-node.node in
    let at = (goal.at.loop-node-preserved c).After-index-in-loop-node in
    let h = built_more f.takable f.items f.options f.entries.items f.starts.items c.requires.table t.links.items t.sizes.items m c.loop-node.invariant.built (within at) _ (placed at) in
    record {
      built = moved f.items f.entries.items _ _ _ _ (m + 1) c.relink.ensures.links c.relink.ensures.sizes h;
      trail = c.relink.ensures.trail ∙ c.loop-node.invariant.trail;
    }

pub returns-clause-right : goal.returns-clause-right
returns-clause-right c =
    let f = c.args.table.now in
    let nodes : c.len-nodes.result ≡ length f.entries.items = omega (arith, c.len-nodes.ensures, f.entries.ok.0) in
    let le = items_in f.takable f.items f.options f.entries.items f.starts.items c.requires.table in
    let up = c.loop-node.auto.node-end (omega (arith, le, nodes)) in
    let e : c.loop-node.node ≡ length f.entries.items = omega (arith, up, nodes) in
    subst (λ t. AreRight f.items f.entries.items f.starts.items c.loop-node.self.links.items c.loop-node.self.sizes.items t) (sym c.loop-node.invariant.trail)
    (built_right f.takable f.items f.options f.entries.items f.starts.items c.requires.table c.loop-node.self.links.items c.loop-node.self.sizes.items c.loop-node.node e c.loop-node.invariant.built)
