use Rattle.std.proofs.Common.{arith, ◌∙◌, ◌++◌, ◌∷◌, [], ap, refl, vec_len}
use Rattle.steal_crew.specs.Tickets.{source_of}
use Rattle.giving_crew.proofs.LiveWorkerLemmas.{all_run}
use Rattle.giving_crew.proofs.gathering.finish.Goals as goal

pub returns : goal.returns
returns g c = let brought = c.in_ok-seats.field-0 in
    let brings = c.in_ok-seats.ensures.brought c.args.work.now (source_of c.args.worker.hand.source.now) c.requires.ended in
    all_run c.args.shared.now.queue (source_of c.args.worker.hand.source.now) (g.W.LiveWork.gives c.args.work.now)
    (vec_len c.args.ended) c.args.worker c.work_on.new.worker c.collect.new.pass brought _ c.requires.worker
    brings c.in_ok-work_on.ensures.0 c.in_ok-work_on.ensures.1
    (ap (λ r. r.2) c.into_parts-pass.ensures) refl
    (c.push_reserved.ensures.items ∙ ap (λ r. brought.seats.items ++ r.1 ∷ []) c.into_parts-pass.ensures)

pub collect-requires-clause-ended : goal.collect-requires-clause-ended
collect-requires-clause-ended g c κs within = (c.args.work.now, source_of c.args.worker.hand.source.now, c.requires.ended)

pub collect-requires-clause-pass : goal.collect-requires-clause-pass
collect-requires-clause-pass g c κs within = let ready = c.requires.worker.idle.ready in (ready.pass, ready.some_part)

pub work_on-requires-after_bounds : goal.work_on-requires-after_bounds
work_on-requires-after_bounds g c κs within = let idle = c.requires.worker.idle in
    let some = idle.ready.some_part in let parts = (c.in_ok-seats.ensures.brought c.args.work.now (source_of c.args.worker.hand.source.now) c.requires.ended).parts in record {
      ready = record { pass = c.in_ok-seats.ensures.room.0; some_part = omega arith; done = idle.ready.done };
      empty = idle.empty;
    }
