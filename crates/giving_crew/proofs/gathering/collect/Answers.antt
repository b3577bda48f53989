use Rattle.std.proofs.Common.{rules, ℕ, ◌-◌, ◌≡◌, ◌≤◌, ◌+◌, ◌∙◌, ap, arith, length, refl, sym, vec_len}
use Rattle.std.proofs.Common.{IfOk, Result, subst}
use Rattle.std.specs.declared.alloc.AllocError.{AllocError}
use Rattle.crossbeam_deque.specs.Injected.{injector_view, IsInjectorPassOf}
use Rattle.giving_crew.specs.declared.hands.LiveWorker.{LiveWorker}
use Rattle.giving_crew.specs.LiveWorkers.{BelongsToSome, Brings, IsAtEnd}
use Rattle.steal_crew.proofs.JobLemmas.{merges}
use Rattle.steal_crew.proofs.QueueRuleLemmas.{all_popped}
use Rattle.giving_crew.proofs.LiveWorkerLemmas.{brings_none, brings_more}
use Rattle.giving_crew.proofs.gathering.collect.Goals as goal

pub absorb-requires-clause-rule : goal.absorb-requires-clause-rule
absorb-requires-clause-rule g c = let p = (c.loop-worker.invariant.all c.requires.ended.0 c.requires.ended.1 c.requires.ended.2).1.parts in let q = c.requires.pass.1 in
    merges _ _ _ _ (omega arith)

pub loop-worker-preserved : goal.loop-worker-preserved
loop-worker-preserved g c = let inv = c.loop-worker.invariant in
    let l : vec_len c.pop.new.self + 1 ≡ vec_len c.loop-worker.ended = c.in-Some.ensures.len in
    let m : vec_len c.loop-worker.ended ≤ vec_len c.args.ended = inv.len in record {
      pass = c.absorb.ensures.same.0;
      all = λ work source at_end.
          let gives = g.W.LiveWork.gives work in
          let old = inv.all work source at_end in
          let rest = all_popped (λ t. IfOk t (IsAtEnd c.args.queue.now source gives)) _ _ c.in-Some.worker old.0 c.in-Some.ensures.items in
          let end = subst (λ t. IfOk t (IsAtEnd c.args.queue.now source gives)) c.in_ok-worker.was rest.1 in (
            rest.0,
            brings_more c.args.queue.now source gives _ _ _ _ _ _ _ _ _ c.in_ok-worker.field-0 _ old.1 end
                c.into_parts-part.ensures c.absorb.ensures.rule (omega arith) c.push_reserved.ensures.items
                c.push_reserved-in-Some.ensures.items,
          );
      len = omega arith;
      seats_room = c.push_reserved.ensures.capacity ∙ inv.seats_room;
      others_room = c.push_reserved-in-Some.ensures.capacity ∙ inv.others_room;
    }

pub absorb-requires-clause-queue : goal.absorb-requires-clause-queue
absorb-requires-clause-queue g c = let inv = c.loop-worker.invariant in let queue = c.args.queue.now in
    let at_end : Result (LiveWorker g.row.W-Job.Denot g.row.W-R.Denot) AllocError
    → Type 0 = λ t. IfOk t (IsAtEnd queue c.requires.ended.1 (g.W.LiveWork.gives c.requires.ended.0)) in
    let rest = all_popped at_end _ _ c.in-Some.worker (c.loop-worker.invariant.all c.requires.ended.0 c.requires.ended.1 c.requires.ended.2).0 c.in-Some.ensures.items in
    let end = subst at_end c.in_ok-worker.was rest.1 in
    (inv.pass, subst (λ p. IsInjectorPassOf queue p) (sym (ap (λ r. r.0) c.into_parts-part.ensures)) end.pass)

pub loop-worker-init : goal.loop-worker-init
loop-worker-init g c = record {
  pass = c.requires.pass.0;
  all = λ work source at_end. (
    at_end,
    brings_none source (BelongsToSome (g.W.LiveWork.gives work source))
        (injector_view c.args.pass.now) _ _ _ (omega arith) c.in_ok-seats.ensures.items c.in_ok-others.ensures.items,
  );
  len = omega arith;
  seats_room = refl;
  others_room = refl;
}

pub push_reserved-requires : goal.push_reserved-requires
push_reserved-requires g c = let inv = c.loop-worker.invariant in let room = inv.seats_room in
    let l : vec_len c.pop.new.self + 1 ≡ vec_len c.loop-worker.ended = c.in-Some.ensures.len in
    let m : vec_len c.loop-worker.ended ≤ vec_len c.args.ended = inv.len in let n = (inv.all c.requires.ended.0 c.requires.ended.1 c.requires.ended.2).1.seats_len in
    let v : vec_len c.loop-worker.seats ≡ length c.loop-worker.seats.items = c.loop-worker.seats.ok.0 in
    let k = c.in_ok-seats.ensures.capacity in omega arith

pub push_reserved-requires-in-Some : goal.push_reserved-requires-in-Some
push_reserved-requires-in-Some g c = let inv = c.loop-worker.invariant in let room = inv.others_room in
    let l : vec_len c.pop.new.self + 1 ≡ vec_len c.loop-worker.ended = c.in-Some.ensures.len in
    let m : vec_len c.loop-worker.ended ≤ vec_len c.args.ended = inv.len in let n = (inv.all c.requires.ended.0 c.requires.ended.1 c.requires.ended.2).1.others_len in
    let v : vec_len c.loop-worker.others ≡ length c.loop-worker.others.items = c.loop-worker.others.ok.0 in
    let k = c.in_ok-others.ensures.capacity in omega arith

pub returns-clause-room : goal.returns-clause-room
returns-clause-room g c = let inv = c.loop-worker.invariant in let none : vec_len c.loop-worker.ended ≡ 0 = search rules in
    let n = (inv.all c.requires.ended.0 c.requires.ended.1 c.requires.ended.2).1.seats_len in let room = inv.seats_room in let k = c.in_ok-seats.ensures.capacity in
    let v : vec_len c.loop-worker.seats ≡ length c.loop-worker.seats.items = c.loop-worker.seats.ok.0 in
    (inv.pass, omega arith)

pub returns-clause-brought : goal.returns-clause-brought
returns-clause-brought g c = λ work source at_end. let none : vec_len c.loop-worker.ended ≡ 0 = search rules in
    subst (λ (m : ℕ). Brings source (BelongsToSome (g.W.LiveWork.gives work source))
    (injector_view c.args.pass.now) (injector_view c.loop-worker.pass) m c.loop-worker.seats.items
    c.loop-worker.others.items)
    (let e : vec_len c.args.ended - vec_len c.loop-worker.ended ≡ vec_len c.args.ended = omega arith in e)
    (c.loop-worker.invariant.all work source at_end).1
