use Rattle.std.proofs.Common.{◌≡◌, ◌+◌, ◌<◌, ◌++◌, ◌∷◌, [], ℕ, ap, ◌∙◌, refl, arith, vec_len}
use Rattle.match_limits.specs.declared.TheConstants.{MOST_WORKERS}
use Rattle.crossbeam_deque.specs.Handles.{worker_view}
use Rattle.crew_machine.specs.Counts.{once_below}
use Rattle.crew_machine.proofs.CountLemmas.{once_below-above}
use Rattle.steal_crew.specs.declared.queues.View.{View}
use Rattle.steal_crew.specs.QueueRule.{part_count}
use Rattle.steal_crew.specs.Queues.{taken_by}
use Rattle.steal_crew.proofs.QueueLemmas.{taken_none, owners_out, owners_cut, owner_known, places_none, places_cut, places_len, once_none, once_all}
use Rattle.steal_crew.proofs.QueueRuleLemmas.{forks}
use Rattle.steal_crew.proofs.queues.Queues.places.Goals as goal

inside : (c : goal.After-index_mut) → c.loop-q.q < vec_len c.args.self.now.handles
inside c = let lt = c.loop-q-test.true in let e = c.len-q-end.ensures in omega arith

pub loop-q-init : goal.loop-q-init
loop-q-init c = let was = c.args.self.now in record {
  same = refl;
  count = refl;
  out = refl;
  owners = owners_out (λ _. was.out) (λ j. was.out + once_below j 0) _ _ _ _ (λ j _. let z = once_none j in omega arith) c.requires.queues;
  places = places_len 0 0 _ _ [] _ refl c.new-list.ensures.items (places_none _ _);
  fresh = λ x. ap (taken_by x) c.new-list.ensures.items;
}

pub another-pass-requires : goal.another-pass-requires
another-pass-requires c =
    let q : ℕ = c.loop-q.q in
    let out : ℕ = c.args.self.now.out in
    let few : out < MOST_WORKERS = c.requires.few in
    let parts : (worker_view c.index_mut.result.now).parts + (out + once_below q q) ≡ part_count = (owner_known _ _ _ _ _ _ _ c.loop-q.invariant.owners (inside c) c.index_mut.ensures.value).0 in
    let z : once_below q q ≡ 0 = once_below-above q q (omega arith) in
    forks _ _ (omega arith)

pub loop-q-preserved : goal.loop-q-preserved
loop-q-preserved c =
    let inv = c.loop-q.invariant in
    let cut = c.another-pass.ensures in
    let lt : c.loop-q.q < vec_len c.args.self.now.handles = let t = c.loop-q-test.true in let e = c.len-q-end.ensures in omega arith in
    record {
      same = inv.same;
      count = inv.count;
      out = inv.out;
      owners = owners_cut c.args.self.now.out _ _ c.loop-q.q _ _ _ _ inv.owners lt c.requires.few c.index_mut.ensures.value (cut.same.0.0, cut.same.0.1) cut.rule.0;
      places = places_len _ _ _ _ _ _ refl (c.push_reserved.ensures.items ∙ ap (λ z. z ++ c.another-pass.result ∷ []) c.reserve.ensures.items)
          (places_cut _ _ _ c.loop-q.q _ _ _ _ _ inv.owners lt c.index_mut.ensures.value cut.same.2 cut.rule.1 inv.places);
      fresh = taken_none _ _ c.another-pass.result (c.push_reserved.ensures.items ∙ ap (λ z. z ++ c.another-pass.result ∷ []) c.reserve.ensures.items) (ap (λ (v : View). v.taken) cut.rule.1) inv.fresh;
    }

pub returns-clause-queues : goal.returns-clause-queues
returns-clause-queues c =
    let inv = c.loop-q.invariant in
    let was = c.args.self.now in
    record {
      same = inv.same;
      count = inv.count;
      out = ap (λ (n : ℕ). n + 1) inv.out;
      owners = owners_out (λ j. was.out + once_below j c.loop-q.q) (λ _. was.out + 1) _ _ _ _ (λ j lt. let all = c.loop-q-test.false in let e = c.len-q-end.ensures in let z = once_all j c.loop-q.q (omega arith) in omega arith) inv.owners;
    }

pub returns-clause-places : goal.returns-clause-places
returns-clause-places c =
    let all = c.loop-q-test.false in
    let most = c.loop-q.auto.q-end in
    let e = c.len-q-end.ensures in
    places_len _ _ _ _ _ _ (omega arith) refl c.loop-q.invariant.places
