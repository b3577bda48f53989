use Rattle.std.proofs.Common.{◌<◌, ◌-◌, ◌∙◌, All, IfOk, arith, subst, sym, vec_len}
use Rattle.steal_crew.specs.Tickets.{source_of}
use Rattle.steal_crew.specs.QueueRule.{part_count}
use Rattle.giving_crew.specs.LiveWorkers.{AreRun, IsAtEnd, IsFirst}
use Rattle.match_limits.specs.declared.TheConstants.{MOST_WORKERS}
use Rattle.giving_crew.proofs.LiveWorkerLemmas.{all_idle, all_back}
use Rattle.giving_crew.proofs.runs.do_given.Goals as goal

pub work_all-requires-after_bounds : goal.work_all-requires-after_bounds
work_all-requires-after_bounds g c κs within = let m : vec_len c.args.seats < MOST_WORKERS = c.requires.seats.1 in
    all_idle c.args.shared.now.queue (source_of c.args.source.now) (g.W.LiveWork.gives c.args.work.now) _ c.args.own
    _ _ _ c.requires.own c.in_ok-workers.ensures (omega arith) c.push_reserved.ensures.items

pub finish-requires-clause-ended : goal.finish-requires-clause-ended
finish-requires-clause-ended g c κs within = let m : vec_len c.args.seats < MOST_WORKERS = c.requires.seats.1 in
    let back = all_back c.args.shared.now.queue (source_of c.args.source.now) (g.W.LiveWork.gives c.args.work.now) _ _ c.args.own
    c.in_ok-last.field-0 _ _ _ _ _ _ c.requires.own c.in_ok-workers.ensures (omega arith) c.push_reserved.ensures.items
    c.in_ok-ended.ensures.1 (sym c.in_ok-ended.ended.ok.0 ∙ (c.in_ok-ended.ensures.0 ∙ c.push_reserved.new.self.ok.0))
    c.in-Some.ensures.items c.in_ok-last.was c.pop.new.self.ok.0 in
    subst (λ source. All (λ t. IfOk t (IsAtEnd c.args.shared.now.queue source (g.W.LiveWork.gives c.args.work.now))) c.pop.new.self.items) (sym back.1.same) back.0

pub finish-requires-clause-worker : goal.finish-requires-clause-worker
finish-requires-clause-worker g c κs within = let m : vec_len c.args.seats < MOST_WORKERS = c.requires.seats.1 in
    let back = all_back c.args.shared.now.queue (source_of c.args.source.now) (g.W.LiveWork.gives c.args.work.now) _ _ c.args.own
    c.in_ok-last.field-0 _ _ _ _ _ _ c.requires.own c.in_ok-workers.ensures (omega arith) c.push_reserved.ensures.items
    c.in_ok-ended.ensures.1 (sym c.in_ok-ended.ended.ok.0 ∙ (c.in_ok-ended.ensures.0 ∙ c.push_reserved.new.self.ok.0))
    c.in-Some.ensures.items c.in_ok-last.was c.pop.new.self.ok.0 in
    subst (λ source. IsFirst c.args.shared.now.queue source (g.W.LiveWork.gives c.args.work.now) (part_count - vec_len c.pop.new.self) c.in_ok-last.field-0) (sym back.1.same) back.1

pub returns : goal.returns
returns g c = let m : vec_len c.args.seats < MOST_WORKERS = c.requires.seats.1 in
    let back = all_back c.args.shared.now.queue (source_of c.args.source.now) (g.W.LiveWork.gives c.args.work.now) _ _ c.args.own
    c.in_ok-last.field-0 _ _ _ _ _ _ c.requires.own c.in_ok-workers.ensures (omega arith) c.push_reserved.ensures.items
    c.in_ok-ended.ensures.1 (sym c.in_ok-ended.ended.ok.0 ∙ (c.in_ok-ended.ensures.0 ∙ c.push_reserved.new.self.ok.0))
    c.in-Some.ensures.items c.in_ok-last.was c.pop.new.self.ok.0 in
    subst (λ source. IfOk c.finish.result (AreRun source (g.W.LiveWork.gives c.args.work.now) (vec_len c.args.seats))) back.1.same
    (subst (λ n. IfOk c.finish.result (AreRun (source_of c.in_ok-last.field-0.hand.source.now) (g.W.LiveWork.gives c.args.work.now) n)) back.2 c.finish.ensures)

pub workers_at-requires-clause-pass : goal.workers_at-requires-clause-pass
workers_at-requires-clause-pass g c = let m : vec_len c.args.seats < MOST_WORKERS = c.requires.seats.1 in
    let p = c.requires.own.parts in (c.requires.own.idle.ready.pass, omega arith)

pub workers_at-requires-clause-seats : goal.workers_at-requires-clause-seats
workers_at-requires-clause-seats g c = c.requires.seats
