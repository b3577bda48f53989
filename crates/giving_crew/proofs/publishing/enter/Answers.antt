use Rattle.std.proofs.Common.{◌≡◌, ◌≤◌, ◌<◌, Some, length, vec_len, arith}
use Rattle.std.proofs.lemmas.Bool.Decides.{nat_tests}
use Rattle.giving_crew.specs.LiveWorkers.{BelongsToSome}
use Rattle.steal_crew.proofs.QueueRuleLemmas.{all_popped}
use Rattle.steal_crew.proofs.ResultLemmas.{entered_put, filled_more, filled_past}
use Rattle.giving_crew.proofs.publishing.enter.Goals as goal

pub loop-number-preserved-then-place-len : goal.loop-number-preserved-then-place-len
loop-number-preserved-then-place-len g c = let inv = c.loop-number.invariant in
    let n : vec_len c.loop-number.slots ≡ length c.loop-number.slots.items = c.loop-number.slots.ok.0 in
    let inside : c.in-Some.number < length c.loop-number.slots.items = grind (arith, nat_tests) in record {
      belong = λ work source done entered.
          let gives = g.W.LiveWork.gives work source in
          let old = inv.belong work source done entered in
          let rest = all_popped (λ e. BelongsToSome gives e.0 e.1) _ _ (c.in-Some.number, c.in-Some.result) old.0 c.in-Some.ensures.items in
          (rest.0, entered_put (BelongsToSome gives) c.loop-number.slots.items c.in-Some.number (Some c.in-Some.result) old.1 rest.1 inside);
      len = inv.len;
      filled = λ x lt some. filled_more c.loop-number.slots.items _ _ c.in-Some.number c.in-Some.result
          c.in-Some.ensures.items inside x (inv.filled x lt some);
    }

pub loop-number-preserved-then-place-len-2 : goal.loop-number-preserved-then-place-len-2
loop-number-preserved-then-place-len-2 g c = let inv = c.loop-number.invariant in
    let n : vec_len c.loop-number.slots ≡ length c.loop-number.slots.items = c.loop-number.slots.ok.0 in
    let inside : c.in-Some.number < length c.loop-number.slots.items = grind (arith, nat_tests) in record {
      belong = λ work source done entered.
          let gives = g.W.LiveWork.gives work source in
          let old = inv.belong work source done entered in
          let rest = all_popped (λ e. BelongsToSome gives e.0 e.1) _ _ (c.in-Some.number, c.in-Some.result) old.0 c.in-Some.ensures.items in
          (rest.0, entered_put (BelongsToSome gives) c.loop-number.slots.items c.in-Some.number (Some c.in-Some.result) old.1 rest.1 inside);
      len = inv.len;
      filled = λ x lt some. filled_more c.loop-number.slots.items _ _ c.in-Some.number c.in-Some.result
          c.in-Some.ensures.items inside x (inv.filled x lt some);
    }

pub loop-number-preserved : goal.loop-number-preserved
loop-number-preserved g c = let inv = c.loop-number.invariant in
    let n : vec_len c.loop-number.slots ≡ length c.loop-number.slots.items = c.loop-number.slots.ok.0 in
    let l : vec_len c.loop-number.slots ≡ vec_len c.args.slots.now = inv.len in
    let outside : length c.loop-number.slots.items ≤ c.in-Some.number = grind (arith, nat_tests) in record {
      belong = λ work source done entered.
          let gives = g.W.LiveWork.gives work source in
          let old = inv.belong work source done entered in
          let rest = all_popped (λ e. BelongsToSome gives e.0 e.1) _ _ (c.in-Some.number, c.in-Some.result) old.0 c.in-Some.ensures.items in
          (rest.0, old.1);
      len = inv.len;
      filled = λ x lt some. filled_past c.loop-number.slots.items _ _ c.in-Some.number c.in-Some.result
          c.in-Some.ensures.items outside x (omega arith) (inv.filled x lt some);
    }

pub returns-clause-slots : goal.returns-clause-slots
returns-clause-slots g c = λ work source done entered. (c.loop-number.invariant.belong work source done entered).1
