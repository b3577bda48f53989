use Rattle.std.proofs.Common.{◌≡◌, ◌+◌, ◌-◌, ◌∙◌, ap, arith}
use Rattle.cert_tree.specs.Heads.{arity}
use Rattle.cert_tree.proofs.HeadLemmas.{nodes-put, skips}
use Rattle.cert_check.proofs.scenes.go_past.Goals as goal

pub overflow_add-left : goal.overflow_add-left
overflow_add-left c =
    let l = c.loop-left in
    let next = c.next-head in
    let e : l.left - 1 + c.children.result ≡ l.left - 1 + arity next.result = ap (λ n. l.left - 1 + n) c.children.ensures in
    let h = (skips l.left (l.left - 1 + c.children.result) l.trees next.new.self next.result c.loop-left-test.true l.invariant.counted next.ensures.first next.ensures.children e).1 in
    let few = next.ensures.few in
    omega arith

pub loop-left-smaller : goal.loop-left-smaller
loop-left-smaller c = omega (arith, nodes-put c.next-head.result c.loop-left.trees c.next-head.new.self c.next-head.ensures.first c.next-head.ensures.children)

pub loop-left-preserved : goal.loop-left-preserved
loop-left-preserved c =
    let l = c.loop-left in
    let next = c.next-head in
    let e : l.left - 1 + c.children.result ≡ l.left - 1 + arity next.result = ap (λ n. l.left - 1 + n) c.children.ensures in
    let h = skips l.left (l.left - 1 + c.children.result) l.trees next.new.self next.result c.loop-left-test.true l.invariant.counted next.ensures.first next.ensures.children e in
    record { past = h.0 ∙ l.invariant.past; counted = h.1 }
