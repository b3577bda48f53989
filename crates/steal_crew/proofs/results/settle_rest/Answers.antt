use Rattle.std.proofs.Common.{rules, ◌≡◌, ◌+◌, ◌<◌, ◌++◌, ℕ, length, vec_len, arith, ap, refl, sym, ◌∙◌, subst}
use Rattle.std.proofs.lemmas.Result.{IfOk-from_err}
use Rattle.std.specs.Option.{IfSome}
use Rattle.steal_crew.specs.Results.{left_out}
use Rattle.steal_crew.proofs.ResultLemmas.{entered_put, tally_more, gone_more, all_gone, settled, none_settled, belongs_more, belongs_none}
use Rattle.steal_crew.proofs.results.settle_rest.Goals as goal

pub loop-place-preserved : goal.loop-place-preserved
loop-place-preserved g c = let inv = c.loop-place.invariant in let gives = g.W.Work.gives c.args.work.now in
    let n : vec_len c.loop-place.slots ≡ length c.loop-place.slots.items = c.loop-place.slots.ok.0 in let inside = subst (λ (m : ℕ). c.loop-place.place < m) (c.len-place-end.ensures ∙ sym inv.len ∙ n) c.loop-place-test.true in record {
      slots = entered_put gives c.loop-place.slots.items c.loop-place.place c.take-slot.new.self inv.slots (subst (λ z. IfSome z (gives c.loop-place.place)) (sym c.take-slot.ensures.after) tt) inside;
      len = inv.len;
      results = belongs_more gives _ _ _ c.loop-place.place c.push_reserved.ensures.items (let m : vec_len c.loop-place.results ≡ length c.loop-place.results.items = c.loop-place.results.ok.0 in sym m ∙ inv.results_len) c.in_ok-result_of.ensures.result inv.results;
      results_len = c.push_reserved.ensures.len ∙ ap (λ (n : ℕ). n + 1) inv.results_len;
      room = c.push_reserved.ensures.capacity ∙ inv.room;
      gone = gone_more c.loop-place.slots.items c.loop-place.place c.take-slot.new.self inside c.take-slot.ensures.after inv.gone;
      tally = λ x. tally_more x c.loop-place.place _ _ c.loop-place.slots.items c.index_mut.result.now c.take-slot.new.self c.loop-place.tally.items _ inside c.index_mut.ensures.value c.take-slot.ensures.after
          (c.in_ok-result_of.ensures.tally ∙ ap (λ o. c.loop-place.tally.items ++ left_out c.loop-place.place o) c.take-slot.ensures.value) (inv.tally x);
    }

pub returns-clause-tally : goal.returns-clause-tally
returns-clause-tally g c = λ x. let inv = c.loop-place.invariant in let n : vec_len c.loop-place.slots ≡ length c.loop-place.slots.items = c.loop-place.slots.ok.0 in let l : vec_len c.loop-place.slots ≡ vec_len c.args.slots = inv.len in
    let all : vec_len c.args.slots ≡ c.loop-place.place = search rules in
    settled x _ _ _ _ (inv.tally x) (all_gone c.loop-place.slots.items c.loop-place.place (omega arith) inv.gone x) all

pub returns-in_err-results : goal.returns-in_err-results
returns-in_err-results g c = let failed = c.from_residual.ensures.0 in
    record { results = IfOk-from_err _ _ failed; len = IfOk-from_err _ _ failed; tally = IfOk-from_err _ _ failed }

pub returns-in_err-result_of : goal.returns-in_err-result_of
returns-in_err-result_of g c = let failed = c.from_residual-in_err-result_of.ensures.0 in
    record { results = IfOk-from_err _ _ failed; len = IfOk-from_err _ _ failed; tally = IfOk-from_err _ _ failed }

pub loop-place-init : goal.loop-place-init
loop-place-init g c = record {
  slots = c.requires.slots;
  len = refl;
  results = belongs_none (g.W.Work.gives c.args.work.now) _ c.in_ok-results.ensures.items;
  results_len = c.in_ok-results.ensures.len;
  room = refl;
  gone = λ x below. absurd (omega arith);
  tally = λ x. none_settled x _ _;
}

pub index_mut-requires : goal.index_mut-requires
index_mut-requires g c = subst (λ (n : ℕ). c.loop-place.place < n) (c.len-place-end.ensures ∙ sym c.loop-place.invariant.len) c.loop-place-test.true

pub result_of-requires-clause-slot : goal.result_of-requires-clause-slot
result_of-requires-clause-slot g c = λ _ _.
    let place = c.loop-place.place in
    let inside = subst (λ (n : ℕ). place < n) (c.len-place-end.ensures ∙ sym c.loop-place.invariant.len ∙ c.loop-place.slots.ok.0) c.loop-place-test.true in
    subst (λ slot. IfSome slot (g.W.Work.gives c.args.work.now place)) (sym (c.take-slot.ensures.value ∙ c.index_mut.ensures.value)) (c.loop-place.invariant.slots place _ inside)

pub result_of-requires-clause-accepts : goal.result_of-requires-clause-accepts
result_of-requires-clause-accepts g c = λ _ _. c.requires.accepts c.loop-place.place (subst (λ (n : ℕ). c.loop-place.place < n) c.len-place-end.ensures c.loop-place-test.true)

pub returns-clause-results : goal.returns-clause-results
returns-clause-results g c = c.loop-place.invariant.results
