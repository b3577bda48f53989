use Rattle.std.proofs.Common.{ap, refl}
use Rattle.steal_crew.specs.declared.jobs.JobView.{JobView}
use Rattle.giving_crew.proofs.LiveWorkerLemmas.{ready_at, moved_none, moved_put, moved_refused, moved_still}
use Rattle.giving_crew.proofs.working.put_all.Goals as goal

pub returns-in_default : goal.returns-in_default
returns-in_default g c = let inv = c.loop.invariant in let none = c.in_default.ensures in record {
  idle = record {
    ready = ready_at _ _ c.loop.worker _ inv.ready none.source inv.ready.pass refl refl;
    empty = none.jobs.1;
  };
  moved = moved_still _ c.loop.worker _ inv.moved none.source none.seat none.jobs.0 none.jobs.1 refl refl;
}

pub do_one-requires-after_bounds : goal.do_one-requires-after_bounds
do_one-requires-after_bounds g c κs within = ready_at _ _ c.loop.worker _ c.loop.invariant.ready
    c.in-Some-next.ensures.source c.in-Some-put_job.ensures.pass
    (ap (λ (v : JobView). v.parts) c.in-Some-put_job.ensures.dealt.1) refl

pub loop-preserved : goal.loop-preserved
loop-preserved g c = let rule = c.in_default-put_job.ensures.dealt in let next = c.in-Some-next in record {
  ready = ready_at _ _ c.loop.worker _ c.loop.invariant.ready next.ensures.source c.in_default-put_job.ensures.pass
      (ap (λ (v : JobView). v.parts) rule) refl;
  moved = moved_put _ c.loop.worker _ next.first.number c.loop.invariant.moved next.ensures.source next.ensures.seat
      next.ensures.jobs refl rule;
}

pub loop-init : goal.loop-init
loop-init g c = record { ready = c.requires; moved = moved_none _ }

pub put_job-requires-clause-pass : goal.put_job-requires-clause-pass
put_job-requires-clause-pass g c = c.loop.invariant.ready.pass

pub put_job-requires-clause-part : goal.put_job-requires-clause-part
put_job-requires-clause-part g c = c.loop.invariant.ready.some_part

pub loop-preserved-in-Continue-1 : goal.loop-preserved-in-Continue-1
loop-preserved-in-Continue-1 g c = let next = c.in-Some-next in let back = c.in-Some-put_job.ensures.dealt in
    let did = c.in_ok-do_one.ensures in record {
      ready = did.ready;
      moved = moved_refused _ c.loop.worker _ _ next.first.number c.in-Some-put_job.refused.number
          c.loop.invariant.moved next.ensures.source next.ensures.seat next.ensures.jobs refl back.1
          (ap (λ j. j.number) back.0) did.moved;
    }
