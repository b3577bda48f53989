use Rattle.std.proofs.Common.{◌≡◌, ◌≢◌, ◌<◌, ◌∙◌, IfSome, length, arith, ap, sym, subst}
use Rattle.std.proofs.lemmas.List.{get_or_read}
use Rattle.xcc_form.specs.Options.{cover_of}
use Rattle.xcc_form.specs.Clashes.{IsOpenAt}
use Rattle.xcc_form.specs.Chosen.{IsUncovered, IsNext, IsLast}
use Rattle.xcc_links.specs.Rings.{no_link, no_entry, down_of, option_of}
use Rattle.xcc_links.specs.LinkStates.{LinkState}
use Rattle.xcc_links.specs.declared.links.arrays.Link.{Link}
use Rattle.xcc_links.specs.declared.links.tables.Entry.{Entry}
use Rattle.xcc_links.proofs.FollowingLemmas.{listed_within}
use Rattle.xcc_links.proofs.MeaningLemmas.{takes_primary}
use Rattle.xcc_links.proofs.NextLemmas.{Begins, begins_none, begins_some, node_in, next_none, next_shown, next_some}
use Rattle.xcc_links.proofs.links.Links.next_option.Goals as goal
use Rattle.xcc_links.proofs.links.Links.next_option.Goals.{in-None, in-Some, Joined-after, After-index}

can_take : (c : Joined-after) → c.args.item < c.self.inside.table.takable
can_take c =
    let p = (subst (λ (s : LinkState). IsUncovered (cover_of s.compiled) s.chosen c.args.item) (sym c.self.view_is) c.requires.item).primary in
    takes_primary c.self.inside.xcc.now c.self.inside.table c.self.invariant.table c.args.item p

begins : (c : Joined-after) → Begins c.self.invariant c.args.item (can_take c) c.args.after c.match-after.node
begins c =
    let h = c.self.invariant in
    let after = subst (λ (s : LinkState). IfSome c.args.after (IsOpenAt (cover_of s.compiled) s.chosen c.args.item)) (sym c.self.view_is) c.requires.after in
    elim c.match-after.branch [
      | in-None w ↦ begins_none h c.args.item (can_take c) c.args.after c.match-after.node w.in-None.is w.node-is
      | in-Some w ↦ begins_some h c.args.item (can_take c) c.args.after c.match-after.node w.in-Some.option w.node_at-node.result w.in-Some.is after w.node-is w.node_at-node.ensures
    ]

linked : (c : Joined-after) → c.match-after.node < length c.self.inside.arrays.links.items
linked c = node_in c.self.invariant c.args.item (can_take c) c.args.after c.match-after.node (begins c)

-- the link that is read there
down : (c : After-index) → c.match-after.node < length c.self.inside.arrays.links.items → c.index.result.now.down ≡ down_of c.self.inside.arrays.links.items c.match-after.node
down c lt = ap (λ (l : Link). l.down) (get_or_read c.self.inside.arrays.links.items c.match-after.node c.index.result.now lt c.index.ensures no_link)

-- ---- the goals

pub index-requires : goal.index-requires
index-requires c =
    let lt = linked (goal.at.index-requires c).Joined-after in
    omega (arith, lt, c.self.inside.arrays.links.ok.0)

pub index-requires-else-next-item : goal.index-requires-else-next-item
index-requires-else-next-item c =
    let at = goal.at.index-requires-else-next-item c in
    let next = down at.After-index (linked at.Joined-after) in
    let differs : down_of c.self.inside.arrays.links.items c.match-after.node ≢ c.args.item = λ e. omega (arith, e, next, c.if-next-item.false) in
    let within = (listed_within (next_shown c.self.invariant c.args.item (can_take at.Joined-after) c.args.after c.match-after.node (begins at.Joined-after) differs)).1 in
    omega (arith, within, next, c.self.inside.table.entries.ok.0)

pub returns-then-next-item : goal.returns-then-next-item
returns-then-next-item c =
    let at = goal.at.returns-then-next-item c in
    let next = down at.After-index (linked at.Joined-after) in
    subst (λ (s : LinkState). IsLast (cover_of s.compiled) s.chosen c.args.item c.args.after) c.self.view_is
    (next_none c.self.invariant c.args.item (can_take at.Joined-after) c.args.after c.match-after.node (begins at.Joined-after) (omega (arith, next, c.if-next-item.true)))

pub returns-else-next-item : goal.returns-else-next-item
returns-else-next-item c =
    let i = c.self.inside in
    let at = goal.at.returns-else-next-item c in
    let start = begins at.Joined-after in
    let next = down at.After-index (linked at.Joined-after) in
    let differs : down_of i.arrays.links.items c.match-after.node ≢ c.args.item = λ e. omega (arith, e, next, c.if-next-item.false) in
    let within = (listed_within (next_shown c.self.invariant c.args.item (can_take at.Joined-after) c.args.after c.match-after.node start differs)).1 in
    let entry = get_or_read i.table.entries.items c.index.result.now.down c.index-else-next-item.result.now (omega (arith, within, next)) c.index-else-next-item.ensures no_entry in
    let option = ap (λ (z : Entry). z.option) entry ∙ ap (option_of i.table.entries.items) next in
    subst (λ (s : LinkState). IsNext (cover_of s.compiled) s.chosen c.args.item c.args.after c.index-else-next-item.result.now.option) c.self.view_is
    (subst (IsNext (cover_of i.xcc.now) i.chosen.items c.args.item c.args.after) (sym option)
    (next_some c.self.invariant c.args.item (can_take at.Joined-after) c.args.after c.match-after.node start differs))
