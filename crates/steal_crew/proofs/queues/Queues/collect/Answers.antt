use Rattle.std.proofs.Common.{rules, ◌≡◌, ◌≤◌, ◌+◌, ◌-◌, ℕ, Contains, IfOk, ap, length, arith, refl, subst, vec_len}
use Rattle.std.proofs.lemmas.List.Elements.{All-contains_itself}
use Rattle.match_limits.specs.declared.TheConstants.{MOST_WORKERS}
use Rattle.steal_crew.specs.Queues.{IsOfShares, Places, AreDealt}
use Rattle.steal_crew.proofs.QueueLemmas.{stand_here, stand_from, places_here}
use Rattle.steal_crew.proofs.QueueRuleLemmas.{all_more, all_popped}
use Rattle.steal_crew.proofs.queues.Queues.collect.Goals as goal

pub loop-share-init : goal.loop-share-init
loop-share-init g c = record {
  queues = c.requires.queues;
  shares = c.requires.shares;
  left = All-contains_itself _;
  few = c.requires.few;
  brought = λ n d lt. let none = ap length c.new-brought.ensures.items in absurd (omega (arith, none, lt));
  len = search rules;
}

pub take_in-requires-clause-queues : goal.take_in-requires-clause-queues
take_in-requires-clause-queues g c = stand_here _ _ _ _ c.loop-share.invariant.queues

pub take_in-requires-clause-out : goal.take_in-requires-clause-out
take_in-requires-clause-out g c =
    let l : vec_len c.pop.new.self + 1 ≡ vec_len c.loop-share.shares = c.in-Some.ensures.len in
    let out = c.loop-share.invariant.queues.out in
    let few = c.loop-share.invariant.few in
    (omega (arith, l, out), omega (arith, out, few))

pub take_in-requires-clause-places : goal.take_in-requires-clause-places
take_in-requires-clause-places g c =
    let was = c.args.self.now in
    let rest = all_popped (λ t. IfOk t (λ share. Places (vec_len was.handles) was.count was.handles.items share.places.items)) _ _ c.in-Some.share c.loop-share.invariant.shares c.in-Some.ensures.items in
    places_here _ _ _ _ _ c.loop-share.invariant.queues (subst (λ t. IfOk t (λ share. Places (vec_len was.handles) was.count was.handles.items share.places.items)) c.in_ok-places.was rest.1)

pub loop-share-preserved : goal.loop-share-preserved
loop-share-preserved g c =
    let inv = c.loop-share.invariant in
    let was = c.args.self.now in
    let l : vec_len c.pop.new.self + 1 ≡ vec_len c.loop-share.shares = c.in-Some.ensures.len in
    let out = inv.queues.out in
    let less : c.loop-share.self.out - 1 ≡ vec_len c.pop.new.self = omega (arith, l, out) in
    let few : vec_len c.loop-share.shares ≤ MOST_WORKERS = inv.few in
    let left = all_popped (Contains c.args.shares.items) _ _ c.in-Some.share inv.left c.in-Some.ensures.items in
    record {
      queues = subst (λ (n : ℕ). AreDealt was.handles was.count n c.take_in.new.self) less (stand_from _ _ _ _ _ _ inv.queues c.take_in.ensures);
      shares = (all_popped (λ t. IfOk t (λ share. Places (vec_len was.handles) was.count was.handles.items share.places.items)) _ _ c.in-Some.share inv.shares c.in-Some.ensures.items).0;
      left = left.0;
      few = omega arith;
      brought = all_more (IsOfShares c.args.shares.items) _ _ c.in_ok-places.field-0.done inv.brought (c.in_ok-places.field-0, subst (Contains c.args.shares.items) c.in_ok-places.was left.1, refl) c.in_ok-push.ensures.items;
      len = (let k : vec_len c.loop-share.brought + vec_len c.loop-share.shares ≡ vec_len c.args.shares = inv.len in let a : vec_len c.push.new.self ≡ vec_len c.loop-share.brought + 1 = c.in_ok-push.ensures.len in omega arith);
    }

pub returns-clause-queues : goal.returns-clause-queues
returns-clause-queues g c =
    let was = c.args.self.now in
    let z : vec_len c.loop-share.shares ≡ 0 = search rules in
    subst (λ (n : ℕ). AreDealt was.handles was.count n c.loop-share.self) z c.loop-share.invariant.queues
