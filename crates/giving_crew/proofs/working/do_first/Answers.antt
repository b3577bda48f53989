use Rattle.std.proofs.Common.{refl}
use Rattle.giving_crew.proofs.LiveWorkerLemmas.{ready_at, moved_first, moved_then}
use Rattle.giving_crew.proofs.working.do_first.Goals as goal

pub put_all-requires-after_bounds : goal.put_all-requires-after_bounds
put_all-requires-after_bounds g c κs within = let old = c.args.worker.now in
    ready_at _ _ old (record { pass = old.pass; hand = c.one.new.hand; done = old.done }) c.requires
    c.in_ok-result.ensures.hand.same c.requires.pass refl refl

pub returns-clause-worked : goal.returns-clause-worked
returns-clause-worked g c = let put = c.in_ok-put_all.ensures in record {
  idle = put.idle;
  moved = moved_then _ _ _ _ (moved_first c.args.worker.now _ c.in_ok-result.ensures.hand) put.moved;
}
