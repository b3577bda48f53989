use Rattle.std.proofs.Common.{◌<◌, ◌∙◌, arith, sym, subst}
use Rattle.std.proofs.lemmas.List.{get_or_read}
use Rattle.xcc_form.specs.Options.{cover_of}
use Rattle.xcc_form.specs.Chosen.{IsUncovered, HasSize}
use Rattle.xcc_links.specs.LinkStates.{LinkState}
use Rattle.xcc_links.proofs.MeaningLemmas.{takes_primary}
use Rattle.xcc_links.proofs.LinkLemmas.{right_now, size_is}
use Rattle.xcc_links.proofs.links.Links.size.Goals as goal

pub index-requires : goal.index-requires
index-requires c =
    let i = c.self.inside in
    let h = c.self.invariant in
    let r = right_now i.xcc.now i.table i.arrays i.marks.items i.chosen.items h in
    let is = subst (λ (s : LinkState). IsUncovered (cover_of s.compiled) s.chosen c.args.item) (sym c.self.view_is) c.requires in
    let p = takes_primary i.xcc.now i.table h.table c.args.item is.primary in
    omega (arith, p, h.table.takable, h.table.items, r.right.counted.long, i.arrays.sizes.ok.0)

pub returns : goal.returns
returns c =
    let i = c.self.inside in
    let h = c.self.invariant in
    let r = right_now i.xcc.now i.table i.arrays i.marks.items i.chosen.items h in
    let is = subst (λ (s : LinkState). IsUncovered (cover_of s.compiled) s.chosen c.args.item) (sym c.self.view_is) c.requires in
    let p = takes_primary i.xcc.now i.table h.table c.args.item is.primary in
    let lt : c.args.item < i.table.items = omega (arith, p, h.table.takable, h.table.items) in
    let size = get_or_read i.arrays.sizes.items c.args.item c.index.result.now (omega (arith, r.right.counted.long, lt)) c.index.ensures 0 ∙ r.right.counted.sized c.args.item lt in
    subst (λ (s : LinkState). HasSize (cover_of s.compiled) s.chosen c.args.item c.index.result.now) c.self.view_is
    (subst (HasSize (cover_of i.xcc.now) i.chosen.items c.args.item) (sym size) (size_is i.xcc.now i.table i.arrays i.marks.items i.chosen.items h c.args.item is))
