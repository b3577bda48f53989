use Rattle.std.proofs.Common.{◌∙◌, Option, IsSomeAnd, arith, vec_len, ap, sym, subst}
use Rattle.crew_machine.specs.Counts.{once_below}
use Rattle.steal_crew.specs.declared.tickets.seats.AllDrawn.{AllDrawn}
use Rattle.steal_crew.specs.Tickets.{Source, source_of}
use Rattle.giving_crew.specs.LiveWorkers.{AreDrawn}
use Rattle.giving_crew.proofs.LiveResultLemmas.{rest_run, belong_from}
use Rattle.giving_crew.proofs.runs.run_live.Goals as goal

pub publish-requires-after_bounds : goal.publish-requires-after_bounds
publish-requires-after_bounds g c κs within = let all = c.join_all-count.ensures in
    (rest_run (g.W.LiveWork.gives c.args.work.now) (source_of c.in_ok-source.source) _ _ _ c.in_ok-first.given all.source
    c.in_ok-first.ensures.1 all.numbers).each

pub returns-clause-drawn : goal.returns-clause-drawn
returns-clause-drawn g c = let all = c.join_all-count.ensures in
    let rest = rest_run (g.W.LiveWork.gives c.args.work.now) (source_of c.in_ok-source.source) _ _ _ c.in_ok-first.given all.source c.in_ok-first.ensures.1 all.numbers in
    let e = c.in_ok-crew.ensures c.args.work.now rest in
    let count = vec_len c.in_ok-crew.crew.results in
    let are : AreDrawn c.args.limit count c.join_all-count.result.1 = record {
      limit = ap (λ (z : Source). z.1) all.source ∙ c.in_ok-source.ensures.limit;
      each = λ x. all.drawn x ∙ ap (once_below x) (sym e.results.len);
    } in
    subst (λ (o : Option AllDrawn). IsSomeAnd o (AreDrawn c.args.limit count)) (sym e.drawn_is) are

pub returns-clause-results : goal.returns-clause-results
returns-clause-results g c = let all = c.join_all-count.ensures in
    let rest = rest_run (g.W.LiveWork.gives c.args.work.now) (source_of c.in_ok-source.source) _ _ _ c.in_ok-first.given all.source c.in_ok-first.ensures.1 all.numbers in
    let e = c.in_ok-crew.ensures c.args.work.now rest in
    belong_from (g.W.LiveWork.gives c.args.work.now) (source_of c.in_ok-source.source)
    c.args.first c.in_ok-first.first c.join_all-count.result.0 _ c.join_all-count.result.1 c.in_ok-crew.crew
    c.join_all-count.ensures.source c.in_ok-first.ensures.0 e

pub returns-clause-once : goal.returns-clause-once
returns-clause-once g c = let all = c.join_all-count.ensures in
    let rest = rest_run (g.W.LiveWork.gives c.args.work.now) (source_of c.in_ok-source.source) _ _ _ c.in_ok-first.given all.source c.in_ok-first.ensures.1 all.numbers in
    let e = c.in_ok-crew.ensures c.args.work.now rest in
    λ x. e.once x ∙ ap (once_below x) (sym e.results.len)

pub returns-clause-limit : goal.returns-clause-limit
returns-clause-limit g c = let all = c.join_all-count.ensures in
    let rest = rest_run (g.W.LiveWork.gives c.args.work.now) (source_of c.in_ok-source.source) _ _ _ c.in_ok-first.given all.source c.in_ok-first.ensures.1 all.numbers in
    let e = c.in_ok-crew.ensures c.args.work.now rest in
    let len = e.results.len in
    let most = all.limit in
    let limit = c.in_ok-source.ensures.limit in
    omega (arith, len, most, limit)

pub returns-clause-workers : goal.returns-clause-workers
returns-clause-workers g c = let all = c.join_all-count.ensures in
    let rest = rest_run (g.W.LiveWork.gives c.args.work.now) (source_of c.in_ok-source.source) _ _ _ c.in_ok-first.given all.source c.in_ok-first.ensures.1 all.numbers in
    let e = c.in_ok-crew.ensures c.args.work.now rest in
    let workers = e.workers in
    let others = c.in_ok-first.ensures.1.others_len in
    let seats = c.in_ok-source.ensures.seats in
    omega (arith, workers, others, seats)
