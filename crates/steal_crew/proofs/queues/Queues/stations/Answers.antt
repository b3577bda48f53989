use Rattle.std.proofs.Common.{rules, ◌≡◌, ◌+◌, ◌-◌, ◌<◌, ◌++◌, ◌∷◌, [], ℕ, ap, ◌∙◌, arith, subst, vec_len}
use Rattle.steal_crew.specs.Queues.{IsStation, AreDealt}
use Rattle.steal_crew.proofs.QueueLemmas.{stand_here, stand_from, places_from}
use Rattle.steal_crew.proofs.QueueRuleLemmas.{all_more}
use Rattle.steal_crew.proofs.queues.Queues.stations.Goals as goal

pub places-requires-clause-queues : goal.places-requires-clause-queues
places-requires-clause-queues c = stand_here _ _ _ _ c.loop-number.invariant.queues

pub places-requires-clause-few : goal.places-requires-clause-few
places-requires-clause-few c =
    let out = c.loop-number.invariant.queues.out in
    let lt = c.loop-number-test.true in
    let len = c.len-queues.ensures in
    let few = c.requires.few in
    omega (arith, out, lt, len, few)

pub loop-number-preserved : goal.loop-number-preserved
loop-number-preserved c =
    let inv = c.loop-number.invariant in
    let was = c.args.self.now in
    let lt : c.loop-number.number < c.len-queues.result = c.loop-number-test.true in
    let len = c.len-queues.ensures in
    let own : c.len-queues.result - 1 - c.loop-number.number < vec_len was.handles = omega arith in
    let made = c.in_ok-places.ensures in
    record {
      queues = subst (λ (n : ℕ). AreDealt was.handles was.count (n + 1) c.places.new.self) inv.queues.out (stand_from _ _ _ _ _ _ inv.queues made.queues);
      each = all_more (IsStation (vec_len was.handles) was.count was.handles.items) c.loop-number.list.items _ _ inv.each (record { own = own; places = places_from _ _ _ _ _ inv.queues made.places; fresh = made.fresh })
          (c.push_reserved.ensures.items ∙ ap (λ z. z ++ record { own = c.len-queues.result - 1 - c.loop-number.number; places = c.in_ok-places.places } ∷ []) c.reserve.ensures.items);
      len = search rules;
    }

pub returns-clause-queues : goal.returns-clause-queues
returns-clause-queues c =
    let was = c.args.self.now in
    let all = c.loop-number-test.false in
    let most = c.loop-number.auto.number-end in
    let e = c.len-queues.ensures in
    let done : c.loop-number.number ≡ vec_len was.handles = omega arith in
    subst (λ (n : ℕ). AreDealt was.handles was.count n c.loop-number.self) done c.loop-number.invariant.queues

pub returns-clause-len : goal.returns-clause-len
returns-clause-len c =
    let len = c.loop-number.invariant.len in
    let all = c.loop-number-test.false in
    let most = c.loop-number.auto.number-end in
    let e = c.len-queues.ensures in
    omega arith
