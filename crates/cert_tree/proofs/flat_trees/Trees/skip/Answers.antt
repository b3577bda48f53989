use Rattle.std.proofs.Common.{◌≡◌, ◌+◌, ◌-◌, ◌∙◌, ap, refl, arith}
use Rattle.cert_tree.specs.Heads.{arity}
use Rattle.cert_tree.proofs.HeadLemmas.{skips, nodes-put, some_counted, some_one}
use Rattle.cert_tree.proofs.flat_trees.Trees.skip.Goals as goal

pub loop-left-init : goal.loop-left-init
loop-left-init c = record { past = refl; counted = some_one c.args.self.now c.requires }

pub next-requires : goal.next-requires
next-requires c = some_counted c.loop-left.self c.loop-left.left c.loop-left-test.true c.loop-left.invariant.counted

pub overflow_add-left : goal.overflow_add-left
overflow_add-left c =
    let e : c.loop-left.left - 1 + c.children.result ≡ c.loop-left.left - 1 + arity c.next.result = ap (λ n. c.loop-left.left - 1 + n) c.children.ensures in
    let h = (skips c.loop-left.left (c.loop-left.left - 1 + c.children.result) c.loop-left.self c.next.new.self c.next.result c.loop-left-test.true c.loop-left.invariant.counted c.next.ensures.first c.next.ensures.children e).1 in
    let few = c.next.ensures.few in
    omega arith

pub loop-left-smaller : goal.loop-left-smaller
loop-left-smaller c = omega (arith, nodes-put c.next.result c.loop-left.self c.next.new.self c.next.ensures.first c.next.ensures.children)

pub loop-left-preserved : goal.loop-left-preserved
loop-left-preserved c =
    let e : c.loop-left.left - 1 + c.children.result ≡ c.loop-left.left - 1 + arity c.next.result = ap (λ n. c.loop-left.left - 1 + n) c.children.ensures in
    let h = skips c.loop-left.left (c.loop-left.left - 1 + c.children.result) c.loop-left.self c.next.new.self c.next.result c.loop-left-test.true c.loop-left.invariant.counted c.next.ensures.first c.next.ensures.children e in
    record { past = h.0 ∙ c.loop-left.invariant.past; counted = h.1 }
