use Rattle.std.proofs.Common.{◌++◌, ◌∷◌, [], length, length-append, arith, ap, ◌∙◌}
use Rattle.xcc_links.specs.TableLayout.{own_entry}
use Rattle.xcc_links.proofs.LayingLemmas.{own_more, laid_first}
use Rattle.xcc_links.proofs.links.tables.add_items.Goals as goal

pub loop-item-init : goal.loop-item-init
loop-item-init c = record { long = ap length c.requires.entries; own = λ k lt. absurd (omega (arith, lt)) }

pub loop-item-preserved : goal.loop-item-preserved
loop-item-preserved c =
    let i = c.loop-item.invariant in
    let entries = c.loop-item.entries.items in
    let item = c.loop-item.item in
    let items = c.in_ok-push.ensures.items in
    let long = ap length items ∙ length-append entries (own_entry item ∷ []) in
    record { long = omega (arith, long, i.long); own = own_more entries c.push.new.self.items item items i.long i.own }

pub returns : goal.returns
returns c = λ x.
    let i = c.loop-item.invariant in
    let starts = c.in_ok-push-2.ensures.items ∙ ap (λ xs. xs ++ c.args.items ∷ []) c.requires.starts in
    laid_first x c.args.items c.loop-item.entries.items c.push-2.new.self.items (omega arith) (λ k lt. i.own k (omega (arith, lt))) starts
