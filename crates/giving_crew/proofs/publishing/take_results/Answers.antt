use Rattle.std.proofs.Common.{◌≡◌, ◌<◌, ◌++◌, ◌∷◌, [], ap, get_or, length, refl, vec_len, arith, sym, ◌∙◌, subst}
use Rattle.std.specs.Option.{IfSome}
use Rattle.giving_crew.specs.LiveWorkers.{BelongsToSome}
use Rattle.steal_crew.proofs.ResultLemmas.{entered_put, filled_other}
use Rattle.giving_crew.proofs.LiveResultLemmas.{first_stays, each_more}
use Rattle.giving_crew.proofs.publishing.take_results.Goals as goal

pub loop-place-preserved : goal.loop-place-preserved
loop-place-preserved g c = let inv = c.loop-place.invariant in
    let n : vec_len c.loop-place.slots ≡ length c.loop-place.slots.items = c.loop-place.slots.ok.0 in
    let low = c.loop-place-test.true in let end = c.len-place-end.ensures in let k = inv.len in
    let inside : c.loop-place.place < length c.loop-place.slots.items = omega arith in
    let m : vec_len c.loop-place.results ≡ length c.loop-place.results.items = c.loop-place.results.ok.0 in
    let l : vec_len c.loop-place.results ≡ c.loop-place.place = inv.results_len in
    let some = c.loop-place.auto.place in let more = c.push_reserved-in-loop-place.ensures.len in
    record {
      belong = λ work source entered.
          let gives = g.W.LiveWork.gives work source in
          let old = inv.belong work source entered in
          let belongs : BelongsToSome gives c.loop-place.place c.in-Some.result =
          subst (λ z. IfSome z (BelongsToSome gives c.loop-place.place))
          (sym c.index_mut.ensures.value ∙ sym c.take.ensures.value ∙ c.in-Some.is)
          (old.0 c.loop-place.place c.index_mut.result.now inside) in (
            entered_put (BelongsToSome gives) c.loop-place.slots.items c.loop-place.place c.take.new.self old.0
                (subst (λ z. IfSome z (BelongsToSome gives c.loop-place.place)) (sym c.take.ensures.after) tt) inside,
            each_more gives _ _ _ c.loop-place.place c.push_reserved-in-loop-place.ensures.items (omega arith) belongs old.1,
          );
      len = inv.len;
      filled = λ x le lt. subst (λ k. 0 < k) (sym
          (filled_other c.loop-place.slots.items c.loop-place.place x c.take.new.self (λ e. absurd (omega arith))))
          (inv.filled x (omega arith) lt);
      results_len = omega arith;
      first = λ d. first_stays _ _ _ _ d c.push_reserved-in-loop-place.ensures.items (omega arith) inv.first;
      room = c.push_reserved-in-loop-place.ensures.capacity ∙ inv.room;
    }

pub returns : goal.returns
returns g c = let inv = c.loop-place.invariant in let past = c.loop-place-test.false in
    let inside = c.loop-place.auto.place-end in let end = c.len-place-end.ensures in let l = inv.results_len in
    let low = c.requires.some in λ work source entered. record {
      some = c.requires.some;
      len = omega arith;
      at_first = inv.first;
      each = λ n d some lt. (inv.belong work source entered).1 n d some (omega arith);
    }

pub loop-place-init : goal.loop-place-init
loop-place-init g c = let l = c.push_reserved.ensures.len in let n = c.in_ok-results.ensures.len in record {
  belong = λ work source entered. (entered, λ n d some lt. absurd (omega arith));
  len = refl;
  filled = λ x le lt. c.requires.filled x (omega arith) lt;
  results_len = omega arith;
  first = λ d. ap (λ l. get_or l 0 d)
      (c.push_reserved.ensures.items ∙ ap (λ l. l ++ c.args.first ∷ []) c.in_ok-results.ensures.items);
  room = refl;
}
