use Rattle.std.proofs.Common.{ap, arith, subst}
use Rattle.steal_crew.specs.QueueRule.{part_count}
use Rattle.steal_crew.specs.Tickets.{Source, source_of}
use Rattle.steal_crew.specs.declared.jobs.JobView.{JobView}
use Rattle.giving_crew.proofs.LiveWorkerLemmas.{ready_made, first_done}
use Rattle.giving_crew.proofs.runs.run_from.Goals as goal

pub do_first-requires-after_bounds : goal.do_first-requires-after_bounds
do_first-requires-after_bounds g c κs within = let queue = c.in_ok-queue.ensures in
    ready_made c.in_ok-queue.queue (source_of c.args.source.now) (g.W.LiveWork.gives c.args.work.now) c.in_ok-queue.pass
    c.args.seat c.in_ok-worker.worker c.in_ok-worker.ensures queue.0
    (let p = ap (λ (v : JobView). v.parts) queue.2 in omega arith)

pub do_given-requires-clause-seats : goal.do_given-requires-clause-seats
do_given-requires-clause-seats g c κs within = c.requires.seats

pub do_given-requires-clause-own : goal.do_given-requires-clause-own
do_given-requires-clause-own g c κs within = first_done c.in_ok-queue.queue (source_of c.args.source.now)
    (g.W.LiveWork.gives c.args.work.now) part_count c.in_ok-queue.pass c.args.seat c.in_ok-worker.worker
    c.do_first.new.worker c.in_ok-worker.ensures c.in_ok-queue.ensures.2 c.requires.seat.1 c.in_ok-result.ensures.worked

pub returns : goal.returns
returns g c = (
  subst (λ (z : Source). g.W.LiveWork.gives c.args.work.now z 0 c.args.first c.in_ok-result.result)
      c.in_ok-worker.ensures.same c.in_ok-result.ensures.first,
  c.in_ok-run.ensures,
)
