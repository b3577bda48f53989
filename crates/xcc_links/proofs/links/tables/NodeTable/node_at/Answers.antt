use Rattle.std.proofs.Common.{◌≡◌, ◌<◌, ◌+◌, ◌∙◌, length, arith, ap, sym, subst}
use Rattle.std.proofs.lemmas.List.{get_or_read}
use Rattle.xcc_links.specs.Rings.{no_entry, item_of}
use Rattle.xcc_links.specs.NodeTables.{start_of}
use Rattle.xcc_links.specs.TableLayout.{IsNodeAt}
use Rattle.xcc_links.specs.declared.links.tables.Entry.{Entry}
use Rattle.xcc_links.proofs.MeaningLemmas.{start_within, at_first, at_second}
use Rattle.xcc_links.proofs.links.tables.NodeTable.node_at.Goals as goal
use Rattle.xcc_links.proofs.links.tables.NodeTable.node_at.Goals.{After-index-start, After-index}

within : (c : After-index-start) → (c.args.option < length c.args.self.now.starts.items) × (start_of c.args.self.now.starts.items c.args.option < length c.args.self.now.entries.items)
within c = let w = c.requires in start_within w.0 w.1 c.args.self.now w.2 c.args.option c.args.item w.3

start : (c : After-index-start) → c.index-start.result.now ≡ start_of c.args.self.now.starts.items c.args.option
start c = get_or_read c.args.self.now.starts.items c.args.option c.index-start.result.now (within c).0 c.index-start.ensures 0

-- the item of the first node
item : (c : After-index) → c.index-start.result.now < length c.args.self.now.entries.items → c.index.result.now.item ≡ item_of c.args.self.now.entries.items c.index-start.result.now
item c lt = ap (λ (z : Entry). z.item) (get_or_read c.args.self.now.entries.items c.index-start.result.now c.index.result.now lt c.index.ensures no_entry)

pub index-requires : goal.index-requires
index-requires c =
    let at = (goal.at.index-requires c).After-index-start in
    omega (arith, start at, (within at).1, c.args.self.now.entries.ok.0)

pub overflow_add-result : goal.overflow_add-result
overflow_add-result c =
    let at = (goal.at.overflow_add-result c).After-index-start in
    omega (arith, start at, (within at).1, c.requires.2.table.few)

pub returns-then-index-item : goal.returns-then-index-item
returns-then-index-item c =
    let w = c.requires in
    let at = goal.at.returns-then-index-item c in
    let first = start at.After-index-start in
    let same = item at.After-index (omega (arith, first, (within at.After-index-start).1)) in
    subst (IsNodeAt c.args.self.now c.args.option c.args.item) (sym first)
    (at_first w.0 w.1 c.args.self.now w.2 c.args.option c.args.item w.3 (ap (item_of c.args.self.now.entries.items) (sym first) ∙ sym same ∙ c.if-index-item.true))

pub returns-else-index-item : goal.returns-else-index-item
returns-else-index-item c =
    let w = c.requires in
    let at = goal.at.returns-else-index-item c in
    let first = start at.After-index-start in
    let same = item at.After-index (omega (arith, first, (within at.After-index-start).1)) in
    subst (λ n. IsNodeAt c.args.self.now c.args.option c.args.item (n + 1)) (sym first)
    (at_second w.0 w.1 c.args.self.now w.2 c.args.option c.args.item w.3 (λ e. c.if-index-item.false (same ∙ ap (item_of c.args.self.now.entries.items) first ∙ e)))
