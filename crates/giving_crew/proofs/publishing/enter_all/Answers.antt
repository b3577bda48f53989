use Rattle.std.proofs.Common.{◌≡◌, vec_len, arith, ◌∙◌}
use Rattle.giving_crew.specs.LiveWorkers.{AreDoneBy}
use Rattle.steal_crew.proofs.QueueRuleLemmas.{all_popped}
use Rattle.giving_crew.proofs.LiveResultLemmas.{filled_share}
use Rattle.giving_crew.proofs.publishing.enter_all.Goals as goal

pub loop-done-preserved : goal.loop-done-preserved
loop-done-preserved g c = let inv = c.loop-done.invariant in
    let l : vec_len c.loop-done.slots ≡ vec_len c.args.slots.now = inv.len in record {
      belong = λ work source others entered.
          let old = inv.belong work source others entered in
          let rest = all_popped (λ s. AreDoneBy (g.W.LiveWork.gives work source) s.items) _ _ c.in-Some.done old.0 c.in-Some.ensures.items in
          (rest.0, c.enter.ensures.slots work source rest.1 old.1);
      len = c.enter.ensures.len ∙ inv.len;
      filled = λ x lt some. filled_share c.loop-done.slots.items _ c.loop-done.others.items _ c.in-Some.done x
          c.in-Some.ensures.items (c.enter.ensures.filled x (omega arith)) (inv.filled x lt some);
    }

pub returns-clause-slots : goal.returns-clause-slots
returns-clause-slots g c = λ work source others entered. (c.loop-done.invariant.belong work source others entered).1
