use Rattle.std.proofs.Common.{◌≡◌, ◌∙◌, ◌++◌, ap, arith, length, vec_len}
use Rattle.std.proofs.lemmas.List.{take_all}
use Rattle.steal_crew.specs.Results.{done_numbers}
use Rattle.giving_crew.proofs.LiveResultLemmas.{numbers_more}
use Rattle.giving_crew.proofs.publishing.with_numbers.Goals as goal

pub loop-at-preserved : goal.loop-at-preserved
loop-at-preserved g c = let done = c.args.done.now in let low = c.loop-at-test.true in let end = c.len-at-end.ensures in
    let n : vec_len done ≡ length done.items = done.ok.0 in
    numbers_more _ _ c.args.tally.items done.items c.loop-at.at c.index.result.now c.in_ok-push.ensures.items
    (omega arith) c.index.ensures c.loop-at.invariant

pub returns : goal.returns
returns g c = let done = c.args.done.now in let past = c.loop-at-test.false in let end = c.len-at-end.ensures in
    let n : vec_len done ≡ length done.items = done.ok.0 in
    c.loop-at.invariant ∙ ap (λ l. c.args.tally.items ++ done_numbers l)
    (take_all c.loop-at.at done.items (omega arith))
