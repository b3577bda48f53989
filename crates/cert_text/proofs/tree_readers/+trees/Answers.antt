use Rattle.std.proofs.Common.{◌+◌, ◌-◌, ◌++◌, ◌∷◌, [], refl, sym, subst, arith}
use Rattle.std.proofs.lemmas.Result.{err_from_is_err_and}
use Rattle.text_words.specs.Place.{times}
use Rattle.text_words.proofs.LoopLemmas.{times_goes_on, times_fail, times_done}
use Rattle.cert_text.specs.HeadReading.{ReadsOnto, ReadAllOnto}
use Rattle.cert_text.specs.TreeText.{tree_by}
use Rattle.cert_text.proofs.TreeReadingLemmas.{tree_by-head, tree_by-fault, node_onto, pushed}
use Rattle.cert_text.proofs.tree_readers.+trees.Goals as goal

pub node-returns-in_err-head : goal.node-returns-in_err-head
node-returns-in_err-head t c =
    let p = err_from_is_err_and c.from_residual.result c.from_residual.ensures.1 in
    rw (p.1, p.2) (tree_by-fault c.args.ranges.now c.args.room c.args.scan.now c.in_err-head.field-0.0 c.if-room-eq0.false c.in_err-head.ensures)

pub node-returns : goal.node-returns
node-returns t c =
    let child = tree_by c.args.ranges.now (c.args.room - 1) in
    let all = subst (λ n. ReadAllOnto c.nodes.result c.nodes.new.scan c.push.new.self.items c.nodes.new.heads.items (times n child c.head.new.scan)) c.children.ensures c.nodes.ensures in
    subst (λ read. ReadsOnto c.nodes.result c.nodes.new.scan c.args.heads.now.items c.nodes.new.heads.items read) (sym (tree_by-head c.args.ranges.now c.args.room c.args.scan.now c.head.new.scan c.in_ok-head.head c.if-room-eq0.false c.in_ok-head.ensures))
    (node_onto child c.in_ok-head.head c.head.new.scan c.nodes.result c.nodes.new.scan c.args.heads.now.items c.push.new.self.items c.nodes.new.heads.items c.in_ok-push.ensures.items all)

pub nodes-returns-in_err-node : goal.nodes-returns-in_err-node
nodes-returns-in_err-node t c =
    let p = err_from_is_err_and c.from_residual.result c.from_residual.ensures.1 in
    let h = c.loop.invariant in
    rw (p.1, p.2) (times_fail (tree_by c.args.ranges.now c.args.room) c.loop.scan (c.args.count - c.loop.counter) (c.args.count - (c.loop.counter + 1)) h.0 c.in_err-node.field-0.0 (times c.args.count (tree_by c.args.ranges.now c.args.room) c.args.scan.now) (omega arith) c.in_err-node.ensures h.1)

pub nodes-loop-preserved : goal.nodes-loop-preserved
nodes-loop-preserved t c =
    let h = c.loop.invariant in
    let n = c.in_ok-node.ensures in (
      h.0 ++ n.0 ∷ [],
      times_goes_on (tree_by c.args.ranges.now c.args.room) c.loop.scan c.node.new.scan (c.args.count - c.loop.counter) (c.args.count - (c.loop.counter + 1)) h.0 (h.0 ++ n.0 ∷ []) n.0 (times c.args.count (tree_by c.args.ranges.now c.args.room) c.args.scan.now) (omega arith) refl n.1 h.1,
      pushed h.0 n.0 c.args.heads.now.items c.loop.heads.items c.node.new.heads.items h.2 n.2,
    )

pub nodes-returns : goal.nodes-returns
nodes-returns t c =
    let h = c.loop.invariant in
    (h.0, times_done (tree_by c.args.ranges.now c.args.room) c.loop.scan (c.args.count - c.loop.counter) h.0 (times c.args.count (tree_by c.args.ranges.now c.args.room) c.args.scan.now) (omega arith) h.1, h.2)
