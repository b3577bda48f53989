use Rattle.std.proofs.Common.{◌≡◌, ◌<◌, ◌≤◌, Some, length, vec_len, arith, refl, sym, ◌∙◌}
use Rattle.std.proofs.lemmas.Bool.Decides.{nat_tests}
use Rattle.std.proofs.lemmas.Result.{IfOk-from_err}
use Rattle.steal_crew.proofs.QueueRuleLemmas.{all_popped}
use Rattle.steal_crew.proofs.ResultLemmas.{entered_put, filled_new, filled_more, filled_kept, filled_past, entered_more, none_entered, all_entered}
use Rattle.steal_crew.proofs.results.enter_first.Goals as goal

pub loop-number-preserved-in_ok-push-2 : goal.loop-number-preserved-in_ok-push-2
loop-number-preserved-in_ok-push-2 g c = let inv = c.loop-number.invariant in
    let n : vec_len c.loop-number.slots ≡ length c.loop-number.slots.items = c.loop-number.slots.ok.0 in let inside : c.in-Some.number < length c.loop-number.slots.items = grind (arith, nat_tests) in record {
      belong = λ work are_done entered.
          let old = inv.belong work are_done entered in
          let rest = all_popped (λ e. g.W.Work.gives work e.0 e.1) _ _ (c.in-Some.number, c.in-Some.result) old.0 c.in-Some.ensures.items in
          (rest.0, entered_put (g.W.Work.gives work) c.loop-number.slots.items c.in-Some.number (Some c.in-Some.result) old.1 rest.1 inside);
      len = inv.len;
      entered = λ x lt more. filled_more c.loop-number.slots.items _ _ c.in-Some.number c.in-Some.result c.in-Some.ensures.items inside x (inv.entered x lt more);
      tally = λ x. entered_more x _ c.in-Some.number _ c.loop-number.tally.items _ c.in_ok-push.ensures.items (inv.tally x) ∙ sym (filled_new c.loop-number.slots.items c.in-Some.number c.index.result.now c.in-Some.result inside c.index.ensures c.in-None.is x);
    }

pub loop-number-preserved-in-Some-index : goal.loop-number-preserved-in-Some-index
loop-number-preserved-in-Some-index g c = let inv = c.loop-number.invariant in
    let n : vec_len c.loop-number.slots ≡ length c.loop-number.slots.items = c.loop-number.slots.ok.0 in let inside : c.in-Some.number < length c.loop-number.slots.items = grind (arith, nat_tests) in record {
      belong = λ work are_done entered.
          let old = inv.belong work are_done entered in
          ((all_popped (λ e. g.W.Work.gives work e.0 e.1) _ _ (c.in-Some.number, c.in-Some.result) old.0 c.in-Some.ensures.items).0, old.1);
      len = inv.len;
      entered = λ x lt more. filled_kept c.loop-number.slots.items _ _ c.in-Some.number c.in-Some.result c.index.result.now c.in-Some.ensures.items inside c.index.ensures c.in_default-index.not-None x (inv.entered x lt more);
      tally = inv.tally;
    }

pub loop-number-preserved : goal.loop-number-preserved
loop-number-preserved g c = let inv = c.loop-number.invariant in
    let n : vec_len c.loop-number.slots ≡ length c.loop-number.slots.items = c.loop-number.slots.ok.0 in let l : vec_len c.loop-number.slots ≡ vec_len c.args.slots.now = inv.len in let outside : length c.loop-number.slots.items ≤ c.in-Some.number = grind (arith, nat_tests) in record {
      belong = λ work are_done entered.
          let old = inv.belong work are_done entered in
          ((all_popped (λ e. g.W.Work.gives work e.0 e.1) _ _ (c.in-Some.number, c.in-Some.result) old.0 c.in-Some.ensures.items).0, old.1);
      len = inv.len;
      entered = λ x lt more. filled_past c.loop-number.slots.items _ _ c.in-Some.number c.in-Some.result c.in-Some.ensures.items outside x (omega arith) (inv.entered x lt more);
      tally = inv.tally;
    }

pub loop-number-init : goal.loop-number-init
loop-number-init g c = record {
  belong = λ work are_done entered. (are_done, entered);
  len = refl;
  entered = λ x lt more. more;
  tally = λ x. none_entered x _ _ c.new-tally.ensures.items;
}

pub returns-in_err-push : goal.returns-in_err-push
returns-in_err-push g c = let failed = c.from_residual.ensures.0 in record {
  slots = λ work are_done entered. IfOk-from_err _ _ failed;
  len = IfOk-from_err _ _ failed;
  filled = IfOk-from_err _ _ failed;
  tally = IfOk-from_err _ _ failed;
}

pub returns-clause-slots : goal.returns-clause-slots
returns-clause-slots g c = λ work are_done entered. (c.loop-number.invariant.belong work are_done entered).1

pub returns-clause-filled : goal.returns-clause-filled
returns-clause-filled g c = λ x lt more.
    all_entered x _ c.loop-number.done.items (sym c.loop-number.done.ok.0 ∙ c.in_default.ensures.cases.0) (c.loop-number.invariant.entered x lt more)
