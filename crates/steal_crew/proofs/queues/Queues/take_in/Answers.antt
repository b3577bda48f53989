use Rattle.std.proofs.Common.{rules, ◌≡◌, ◌+◌, ◌-◌, ◌<◌, ◌≤◌, ap, ◌∙◌, sym, refl, arith, length, vec_len}
use Rattle.crossbeam_deque.specs.Handles.{worker_view}
use Rattle.crew_machine.specs.Counts.{once_below}
use Rattle.steal_crew.proofs.QueueLemmas.{owners_out, owners_less, owner_known, place_of, place_at, places_popped, places_len, once_none, once_all}
use Rattle.steal_crew.proofs.QueueRuleLemmas.{merges}
use Rattle.steal_crew.proofs.queues.Queues.take_in.Goals as goal
use Rattle.steal_crew.specs.QueueRule.{part_count}
use Rattle.match_limits.specs.declared.TheConstants.{MOST_WORKERS}

pub loop-place-init : goal.loop-place-init
loop-place-init c = let n : vec_len c.args.places ≡ length c.args.places.items = c.args.places.ok.0 in let l : length c.args.places.items ≡ vec_len c.args.self.now.handles = c.requires.places.len in let out = c.requires.out.0 in record {
  same = refl;
  count = refl;
  out = refl;
  owners = owners_out (λ _. c.args.self.now.out) (λ j. c.args.self.now.out - 1 + once_below j (vec_len c.args.places)) _ _ _ _ (λ j lt. let z = once_all j (vec_len c.args.places) (omega arith) in omega arith) c.requires.queues;
  places = places_len _ _ _ _ _ _ (sym (n ∙ l)) refl c.requires.places;
  few = omega arith;
}

pub absorb-requires-clause-table : goal.absorb-requires-clause-table
absorb-requires-clause-table c = let inv = c.loop-place.invariant in let l : vec_len c.pop.new.self + 1 ≡ vec_len c.loop-place.places = c.in-Some.ensures.len in let few : vec_len c.loop-place.places ≤ vec_len c.args.self.now.handles = inv.few in let q : c.len-q.result ≡ vec_len c.pop.new.self = c.len-q.ensures in let inside : c.len-q.result < vec_len c.args.self.now.handles = omega arith in
    place_of _ _ _ _ _ _ _ _ inv.owners inside c.index_mut.ensures.value (place_at _ _ _ _ _ q (places_popped _ _ _ _ _ _ _ inv.places c.in-Some.ensures.items (sym l)).1)

pub absorb-requires-clause-rule : goal.absorb-requires-clause-rule
absorb-requires-clause-rule c = let inv = c.loop-place.invariant in let l : vec_len c.pop.new.self + 1 ≡ vec_len c.loop-place.places = c.in-Some.ensures.len in let few : vec_len c.loop-place.places ≤ vec_len c.args.self.now.handles = inv.few in let q : c.len-q.result ≡ vec_len c.pop.new.self = c.len-q.ensures in let out : 0 < c.args.self.now.out = c.requires.out.0 in let most : c.args.self.now.out ≤ MOST_WORKERS = c.requires.out.1 in let inside : c.len-q.result < vec_len c.args.self.now.handles = omega arith in
    let parts : (worker_view c.index_mut.result.now).parts + (c.args.self.now.out - 1 + once_below c.len-q.result (vec_len c.loop-place.places)) ≡ part_count = (owner_known _ _ c.args.self.now.count c.len-q.result _ _ _ inv.owners inside c.index_mut.ensures.value).0 in
    let one = once_all c.len-q.result (vec_len c.loop-place.places) (omega arith) in merges _ _ _ _ (omega arith)

pub loop-place-preserved : goal.loop-place-preserved
loop-place-preserved c = let inv = c.loop-place.invariant in let l : vec_len c.pop.new.self + 1 ≡ vec_len c.loop-place.places = c.in-Some.ensures.len in let few : vec_len c.loop-place.places ≤ vec_len c.args.self.now.handles = inv.few in let q : c.len-q.result ≡ vec_len c.pop.new.self = c.len-q.ensures in
    let rest = places_popped _ _ _ _ _ _ _ inv.places c.in-Some.ensures.items (sym l) in let took = c.absorb.ensures in record {
      same = inv.same;
      count = inv.count;
      out = inv.out;
      owners = owners_less (c.args.self.now.out - 1) _ _ c.len-q.result (vec_len c.loop-place.places) (vec_len c.pop.new.self) _ _ _ _ c.in-Some.place inv.owners q (sym l) (omega arith) c.index_mut.ensures.value (place_at _ _ _ _ _ q rest.1) (took.same.0.0, took.same.0.1) took.rule;
      places = rest.0;
      few = omega arith;
    }

pub returns : goal.returns
returns c =
    let inv = c.loop-place.invariant in
    let z : vec_len c.loop-place.places ≡ 0 = search rules in
    record {
      same = inv.same;
      count = inv.count;
      out = inv.out;
      owners = owners_out (λ j. c.args.self.now.out - 1 + once_below j (vec_len c.loop-place.places)) (λ _. c.args.self.now.out - 1) _ _ _ _ (λ j _. let n = once_none j in let e = ap (once_below j) z in omega arith) inv.owners;
    }
