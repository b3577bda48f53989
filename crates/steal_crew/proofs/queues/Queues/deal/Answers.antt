use Rattle.std.proofs.Common.{◌≡◌, ◌+◌, ◌<◌, ◌≤◌, sym, subst, refl, arith}
use Rattle.std.proofs.lemmas.Nat.{mod_below}
use Rattle.std.specs.List.{AllByRecursion}
use Rattle.crossbeam_deque.specs.Handles.{worker_view}
use Rattle.steal_crew.specs.QueueRule.{part_count}
use Rattle.steal_crew.proofs.QueueLemmas.{owners_counted, owners_dealt, owner_known, dealt_below}
use Rattle.steal_crew.proofs.QueueRuleLemmas.{deals}
use Rattle.steal_crew.proofs.queues.Queues.deal.Goals as goal

pub loop-number-init : goal.loop-number-init
loop-number-init c = record { same = refl; out = c.requires.queues.out; owners = owners_counted _ _ _ _ _ _ _ (sym c.len-queues.ensures) refl c.requires.queues.owners }

pub push_as-requires-clause-pushes : goal.push_as-requires-clause-pushes
push_as-requires-clause-pushes c =
    let some : 0 < c.len-queues.result = subst (λ n. 0 < n) (sym c.len-queues.ensures) c.requires.some in
    let known = owner_known _ _ _ _ _ _ _ c.loop-number.invariant.owners (mod_below c.loop-number.number c.len-queues.result some) c.index_mut.ensures.value in
    let parts : (worker_view c.index_mut.result.now).parts + 0 ≡ part_count = known.0 in
    deals _ _ _ (omega arith) (subst (AllByRecursion (λ y. y < c.loop-number.number)) (sym known.1) (dealt_below _ _ c.loop-number.number))

pub loop-number-preserved : goal.loop-number-preserved
loop-number-preserved c =
    let i = c.loop-number.invariant in
    let some : 0 < c.len-queues.result = subst (λ n. 0 < n) (sym c.len-queues.ensures) c.requires.some in
    record { same = i.same; out = i.out; owners = owners_dealt _ _ _ _ _ _ _ i.owners (mod_below c.loop-number.number c.len-queues.result some) refl c.index_mut.ensures.value (c.push_as.ensures.same.0, c.push_as.ensures.same.1) c.in-Ok.ensures.rule.0.0 }

pub returns : goal.returns
returns c =
    let i = c.loop-number.invariant in
    let all : c.args.count ≤ c.loop-number.number = c.loop-number-test.false in
    let most : c.loop-number.number ≤ c.args.count = c.loop-number.auto.number-end in
    record { same = i.same; count = refl; out = i.out; owners = owners_counted _ _ _ _ _ _ _ c.len-queues.ensures (omega arith) i.owners }
