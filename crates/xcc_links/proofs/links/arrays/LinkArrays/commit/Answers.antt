use Rattle.std.proofs.Common.{◌≡◌, ◌≤◌, arith, ap, sym, inl, inr, ⊎_elim}
use Rattle.std.proofs.lemmas.List.{get_or_read}
use Rattle.xcc_links.specs.Rings.{no_entry, item_of}
use Rattle.xcc_links.specs.declared.links.tables.Entry.{Entry}
use Rattle.xcc_links.proofs.TrailLemmas.{goes_on}
use Rattle.xcc_links.proofs.PurifyingLemmas.{goes_has}
use Rattle.xcc_links.proofs.CommittingLemmas.{if_ok, takable_all, takable_only, secondary_all, secondary_only}
use Rattle.xcc_links.proofs.links.arrays.LinkArrays.commit.Goals as goal

pub returns-then-entry-table-clause-all : goal.returns-then-entry-table-clause-all
returns-then-entry-table-clause-all c =
    let t = c.args.table.now in
    let entry = get_or_read t.entries.items c.args.node c.index-entry.result.now c.requires.to c.index-entry.ensures no_entry in
    let item = ap (λ (x : Entry). x.item) entry in
    let colour = ap (λ (x : Entry). x.colour) entry in
    let high : t.takable ≤ c.index-entry.result.now.item = omega arith in
    if_ok c.purify.result _ _ (λ all option b. all option (secondary_all t.takable t.items t.options t.entries.items t.starts.items c.requires.table c.args.node c.index-entry.result.now.item c.index-entry.result.now.colour item colour high option b)) c.purify.ensures.all

pub returns-then-entry-table-clause-only : goal.returns-then-entry-table-clause-only
returns-then-entry-table-clause-only c =
    let t = c.args.table.now in
    let entry = get_or_read t.entries.items c.args.node c.index-entry.result.now c.requires.to c.index-entry.ensures no_entry in
    let item = ap (λ (x : Entry). x.item) entry in
    let colour = ap (λ (x : Entry). x.colour) entry in
    let high : t.takable ≤ c.index-entry.result.now.item = omega arith in
    if_ok c.purify.result _ _ (λ only option e. ⊎_elim (λ old. inl old) (λ d. inr (secondary_only t.takable t.items t.options t.entries.items t.starts.items c.requires.table c.args.node c.index-entry.result.now.item c.index-entry.result.now.colour item colour high option d)) (only option e)) c.purify.ensures.only

pub returns-clause-goes : goal.returns-clause-goes
returns-clause-goes c = goes_on _ _ _ _ _ _ _ c.in_ok-hide.ensures.goes c.purify-2.ensures.goes

pub returns-clause-all : goal.returns-clause-all
returns-clause-all c =
    let t = c.args.table.now in
    let item = ap (λ (x : Entry). x.item) (get_or_read t.entries.items c.args.node c.index-entry.result.now c.requires.to c.index-entry.ensures no_entry) in
    let i : item_of t.entries.items c.args.node ≡ c.index-entry.result.now.item = sym item in
    if_ok c.purify-2.result _ _ (λ all. takable_all t.takable t.items t.options t.entries.items t.starts.items c.requires.table c.args.node (omega (arith, i)) c.index-entry.result.now.item item c.args.self.now.trail.items c.hide.new.self.trail.items c.purify-2.new.self.trail.items c.in_ok-hide.ensures.hidden (λ p h. goes_has _ _ _ _ _ p c.purify-2.ensures.goes h) all) c.purify-2.ensures.all

pub returns-clause-only : goal.returns-clause-only
returns-clause-only c =
    let t = c.args.table.now in
    let item = ap (λ (x : Entry). x.item) (get_or_read t.entries.items c.args.node c.index-entry.result.now c.requires.to c.index-entry.ensures no_entry) in
    let i : item_of t.entries.items c.args.node ≡ c.index-entry.result.now.item = sym item in
    if_ok c.purify-2.result _ _ (takable_only t.takable t.items t.options t.entries.items t.starts.items c.requires.table c.args.node (omega (arith, i)) c.index-entry.result.now.item item c.args.self.now.trail.items c.hide.new.self.trail.items c.purify-2.new.self.trail.items c.in_ok-hide.ensures.hidden) c.purify-2.ensures.only
