use Rattle.std.proofs.Common.{◌≡◌, ◌<◌, ◌-◌, ◌∙◌, ℕ, Some, MatchOption, not, arith, ap, sym, subst, true≢false, inl, inr, ⊎_elim}
use Rattle.std.specs.Option.{is_some}
use Rattle.std.proofs.lemmas.List.{get_or_read}
use Rattle.xcc_form.specs.Options.{cover_of}
use Rattle.xcc_form.specs.Chosen.{AreAllCovered, IsToBranchOn}
use Rattle.xcc_links.specs.NodeTables.{start_of}
use Rattle.xcc_links.specs.LinkStates.{LinkState}
use Rattle.xcc_links.proofs.BranchItemLemmas.{root_in, first_start, end_fits, so_far_none, so_far_all, node_item, node_sized, node_linked, node_down, takes, leaves}
use Rattle.xcc_links.proofs.links.Links.branch_item.Goals as goal
use Rattle.xcc_links.proofs.links.Links.branch_item.Goals.{then-is_none, else-is_none+else-size-fewest, After-index-first}

is_first : (c : After-index-first) → c.index-first.result.now ≡ start_of c.self.inside.table.starts.items c.self.inside.table.options
is_first c = get_or_read c.self.inside.table.starts.items c.self.inside.table.options c.index-first.result.now (first_start c.self.invariant) c.index-first.ensures 0

pub index-requires : goal.index-requires
index-requires c =
    let lt = root_in c.self.invariant in
    omega (arith, lt, c.self.inside.arrays.links.ok.0)

pub overflow_add-end : goal.overflow_add-end
overflow_add-end c = let at = (goal.at.overflow_add-end c).After-index-first in let lt = end_fits c.self.invariant c.index-first.result.now (is_first at) in omega (arith, lt)

pub loop-node-init : goal.loop-node-init
loop-node-init c = so_far_none c.self.invariant c.index-first.result.now 0 c.index.result.now c.index.ensures

pub overflow_sub-item : goal.overflow_sub-item
overflow_sub-item c =
    let first = is_first (goal.at.overflow_sub-item c).After-index-first in
    let l = c.loop-node in
    (node_item c.self.invariant c.index-first.result.now first l.fewest l.node (omega arith) l.best l.invariant).0

pub index-size-requires : goal.index-size-requires
index-size-requires c =
    let first = is_first (goal.at.index-size-requires c).After-index-first in
    let l = c.loop-node in
    let lt = node_sized c.self.invariant c.index-first.result.now first l.fewest l.node (omega arith) l.best l.invariant in
    omega (arith, lt, c.self.inside.arrays.sizes.ok.0)

pub index-requires-in-loop-node : goal.index-requires-in-loop-node
index-requires-in-loop-node c =
    let first = is_first (goal.at.index-requires-in-loop-node c).After-index-first in
    let l = c.loop-node in
    let lt = node_linked c.self.invariant c.index-first.result.now first l.fewest l.node (omega arith) l.best l.invariant in
    omega (arith, lt, c.self.inside.arrays.links.ok.0)

pub loop-node-smaller : goal.loop-node-smaller
loop-node-smaller c =
    let first = is_first (goal.at.loop-node-smaller c).After-index-first in
    let l = c.loop-node in
    node_down c.self.invariant c.index-first.result.now first l.fewest l.node (omega arith) c.index-in-loop-node.result.now c.index-in-loop-node.ensures l.best l.invariant

pub loop-node-preserved : goal.loop-node-preserved
loop-node-preserved c =
    let h = c.self.invariant in
    let first = c.index-first.result.now in
    let here = is_first (goal.at.loop-node-preserved c).After-index-first in
    let l = c.loop-node in
    let link = c.index-in-loop-node.result.now in
    let size = get_or_read c.self.inside.arrays.sizes.items (l.node - first) c.index-size.result.now (node_sized h first here l.fewest l.node (omega arith) l.best l.invariant) c.index-size.ensures 0 in
    elim c.if-is_none.branch [
      | then-is_none w ↦
          let fewer : ((b : ℕ) → l.best ≡ Some b → c.index-size.result.now < l.fewest) = λ b e. ⊎_elim (λ none. absurd (true≢false (ap is_some (sym e) ∙ c.is_none.ensures ∙ ap not none))) (λ less. less.1) w.then-is_none.either in
          rw (w.best-is, w.fewest-is) (takes h first here l.fewest l.node (omega arith) link c.index-in-loop-node.ensures (omega arith) c.index-size.result.now size l.best fewer l.invariant)
      | else-is_none+else-size-fewest w ↦
          rw (w.best-is, w.fewest-is) (leaves h first here l.fewest l.node (omega arith) link c.index-in-loop-node.ensures (omega arith) c.index-size.result.now size l.best (λ e. true≢false (sym (ap not w.if-is_none.false) ∙ sym c.is_none.ensures ∙ ap is_some e)) (omega (arith, w.if-size-fewest.false)) l.invariant)
    ]

pub returns-else-node-end : goal.returns-else-node-end
returns-else-node-end c =
    let first = is_first (goal.at.returns-else-node-end c).After-index-first in
    let l = c.loop-node in
    subst (λ (s : LinkState). MatchOption l.best (AreAllCovered (cover_of s.compiled) s.chosen) (IsToBranchOn (cover_of s.compiled) s.chosen)) c.self.view_is
    (so_far_all c.self.invariant c.index-first.result.now first l.best l.fewest l.node (inr c.if-node-end.false) l.invariant)

pub returns-after-loop-node : goal.returns-after-loop-node
returns-after-loop-node c =
    let first = is_first (goal.at.returns-after-loop-node c).After-index-first in
    let l = c.loop-node in
    subst (λ (s : LinkState). MatchOption l.best (AreAllCovered (cover_of s.compiled) s.chosen) (IsToBranchOn (cover_of s.compiled) s.chosen)) c.self.view_is
    (so_far_all c.self.invariant c.index-first.result.now first l.best l.fewest l.node (inl c.loop-node-test.false) l.invariant)
