use Rattle.std.proofs.Common.{◌≡◌, ◌≢◌, ◌⊎◌, ◌<◌, ◌≤◌, ◌+◌, ◌-◌, ◌∙◌, IfSome, length, arith, ap, sym, subst}
use Rattle.std.proofs.lemmas.List.{get_or_read}
use Rattle.xcc_form.specs.Options.{cover_of}
use Rattle.xcc_form.specs.Chosen.{IsUncovered, IsNextItem, IsLastItem}
use Rattle.xcc_links.specs.NodeTables.{start_of}
use Rattle.xcc_links.specs.Rings.{no_link, down_of}
use Rattle.xcc_links.specs.LinkStates.{LinkState}
use Rattle.xcc_links.specs.declared.links.arrays.Link.{Link}
use Rattle.xcc_links.proofs.BranchItemLemmas.{is_root, first_start, end_fits}
use Rattle.xcc_links.proofs.NextItemLemmas.{Begins, begins_none, begins_some, node_in, next_none, next_from, next_some}
use Rattle.xcc_links.proofs.links.Links.next_item.Goals as goal
use Rattle.xcc_links.proofs.links.Links.next_item.Goals.{in-None, in-Some, Joined-after, After-index}

is_first : (c : Joined-after) → c.index-first.result.now ≡ start_of c.self.inside.table.starts.items c.self.inside.table.options
is_first c = get_or_read c.self.inside.table.starts.items c.self.inside.table.options c.index-first.result.now (first_start c.self.invariant) c.index-first.ensures 0

begins : (c : Joined-after) → Begins c.self.invariant (c.self.inside.table.items - 1) (is_root c.self.invariant) c.index-first.result.now (is_first c) c.args.after c.match-after.node
begins c =
    let h = c.self.invariant in
    let root = c.self.inside.table.items - 1 in
    let first = c.index-first.result.now in
    let after = subst (λ (s : LinkState). IfSome c.args.after (IsUncovered (cover_of s.compiled) s.chosen)) (sym c.self.view_is) c.requires in
    elim c.match-after.branch [
      | in-None w ↦ begins_none h root (is_root h) first (is_first c) c.args.after c.match-after.node w.in-None.is w.node-is
      | in-Some w ↦ begins_some h root (is_root h) first (is_first c) c.args.after c.match-after.node w.in-Some.item w.in-Some.is after w.node-is
    ]

linked : (c : Joined-after) → c.match-after.node < length c.self.inside.arrays.links.items
linked c = node_in c.self.invariant (c.self.inside.table.items - 1) (is_root c.self.invariant) c.index-first.result.now (is_first c) c.args.after c.match-after.node (begins c)

-- the link that is read there
down : (c : After-index) → c.match-after.node < length c.self.inside.arrays.links.items → c.index.result.now.down ≡ down_of c.self.inside.arrays.links.items c.match-after.node
down c lt = ap (λ (l : Link). l.down) (get_or_read c.self.inside.arrays.links.items c.match-after.node c.index.result.now lt c.index.ensures no_link)

-- ---- the goals

pub index-requires : goal.index-requires
index-requires c =
    let lt = linked (goal.at.index-requires c).Joined-after in
    omega (arith, lt, c.self.inside.arrays.links.ok.0)

pub overflow_add-end : goal.overflow_add-end
overflow_add-end c =
    let h = c.self.invariant in
    let first = get_or_read c.self.inside.table.starts.items c.self.inside.table.options c.index-first.result.now (first_start h) c.index-first.ensures 0 in
    let lt = end_fits h c.index-first.result.now first in
    omega (arith, lt)

pub overflow_sub-result : goal.overflow_sub-result
overflow_sub-result c =
    let h = c.self.invariant in
    let root = c.self.inside.table.items - 1 in
    let at = goal.at.overflow_sub-result c in
    let next = down at.After-index (linked at.Joined-after) in
    let differs : down_of c.self.inside.arrays.links.items c.match-after.node ≢ root = λ e. c.if-next-end.false.0 (next ∙ e) in
    let from = next_from h root (is_root h) c.index-first.result.now (is_first at.Joined-after) c.args.after c.match-after.node (begins at.Joined-after) differs in
    omega (arith, from, next)

pub returns-then-next-end : goal.returns-then-next-end
returns-then-next-end c =
    let h = c.self.invariant in
    let t = c.self.inside.table in
    let root = t.items - 1 in
    let first = c.index-first.result.now in
    let at = goal.at.returns-then-next-end c in
    let next = down at.After-index (linked at.Joined-after) in
    subst (λ (s : LinkState). IsLastItem (cover_of s.compiled) s.chosen c.args.after) c.self.view_is
    (next_none h root (is_root h) first (is_first at.Joined-after) c.args.after c.match-after.node (begins at.Joined-after)
    (subst (λ d. (d ≡ root) ⊎ ((d ≢ root) × (first + t.primaries ≤ d))) next c.if-next-end.either))

pub returns-else-next-end : goal.returns-else-next-end
returns-else-next-end c =
    let i = c.self.inside in
    let h = c.self.invariant in
    let root = i.table.items - 1 in
    let first = c.index-first.result.now in
    let at = goal.at.returns-else-next-end c in
    let next = down at.After-index (linked at.Joined-after) in
    let differs : down_of i.arrays.links.items c.match-after.node ≢ root = λ e. c.if-next-end.false.0 (next ∙ e) in
    let below = subst (λ d. d < first + i.table.primaries) next c.if-next-end.false.1 in
    subst (λ (s : LinkState). IsNextItem (cover_of s.compiled) s.chosen c.args.after (c.index.result.now.down - first)) c.self.view_is
    (subst (λ n. IsNextItem (cover_of i.xcc.now) i.chosen.items c.args.after (n - first)) (sym next)
    (next_some h root (is_root h) first (is_first at.Joined-after) c.args.after c.match-after.node (begins at.Joined-after) differs below))
