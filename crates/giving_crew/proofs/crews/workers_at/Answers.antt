use Rattle.std.proofs.Common.{◌≡◌, ◌<◌, ◌+◌, ◌-◌, ap, arith, vec_len, ◌∙◌}
use Rattle.crossbeam_deque.specs.Injected.{injector_view}
use Rattle.steal_crew.specs.Tickets.{source_of, IsFresh}
use Rattle.giving_crew.specs.LiveWorkers.{IsAtStart}
use Rattle.steal_crew.specs.declared.jobs.JobView.{JobView}
use Rattle.steal_crew.proofs.JobLemmas.{forks}
use Rattle.steal_crew.proofs.QueueRuleLemmas.{all_more, all_popped}
use Rattle.giving_crew.proofs.LiveWorkerLemmas.{forked, start_made}
use Rattle.giving_crew.proofs.crews.workers_at.Goals as goal

pub another-part-requires-clause-rule : goal.another-part-requires-clause-rule
another-part-requires-clause-rule g c = let inv = c.loop-seat.invariant in
    let p : (injector_view c.loop-seat.pass).parts ≡ (injector_view c.args.pass.now).parts - vec_len c.loop-seat.list =
    ap (λ (v : JobView). v.parts) inv.view_is in
    let k : vec_len c.pop.new.self + 1 ≡ vec_len c.loop-seat.seats = c.in-Some.ensures.len in
    let l : vec_len c.loop-seat.list + vec_len c.loop-seat.seats ≡ vec_len c.args.seats = inv.len in
    let m : vec_len c.args.seats < (injector_view c.args.pass.now).parts = c.requires.pass.1 in
    forks _ _ (omega arith)

pub worker_at-requires-clause-seat : goal.worker_at-requires-clause-seat
worker_at-requires-clause-seat g c = (all_popped (IsFresh (source_of c.args.source.now)) _ _ c.in-Some.seat
    c.loop-seat.invariant.fresh c.in-Some.ensures.items).1.same

pub loop-seat-preserved : goal.loop-seat-preserved
loop-seat-preserved g c = let inv = c.loop-seat.invariant in
    let k : vec_len c.pop.new.self + 1 ≡ vec_len c.loop-seat.seats = c.in-Some.ensures.len in
    let l : vec_len c.loop-seat.list + vec_len c.loop-seat.seats ≡ vec_len c.args.seats = inv.len in
    let m : vec_len c.push_reserved.new.self ≡ vec_len c.loop-seat.list + 1 = c.push_reserved.ensures.len in
    let part = c.another-part.ensures in
    let seats = all_popped (IsFresh (source_of c.args.source.now)) _ _ c.in-Some.seat inv.fresh
    c.in-Some.ensures.items in record {
      pass = part.same.0;
      view_is = forked (injector_view c.args.pass.now) _ _ _ _ inv.view_is part.rule.0 m;
      fresh = seats.0;
      each = all_more (IsAtStart c.args.queue.now (source_of c.args.source.now)) _ _ c.in_ok-worker_at.field-0 inv.each
          (start_made c.args.queue.now (source_of c.args.source.now) _ _ c.in_ok-worker_at.field-0
          c.in_ok-worker_at.ensures part.same.2 part.rule.1 seats.1.empty) c.push_reserved.ensures.items;
      len = omega arith;
      room = c.push_reserved.ensures.capacity ∙ inv.room;
    }
