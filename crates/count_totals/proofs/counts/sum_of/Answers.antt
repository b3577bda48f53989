use Rattle.std.proofs.Common.{◌≡◌, ◌∙◌, ◌+◌, ◌-◌, ◌∷◌, ◌++◌, [], Some, None, length, slice_get, arith, ap, sym, refl}
use Rattle.std.proofs.lemmas.Option.{slice_get-get_or, slice_get_read}
use Rattle.count_totals.proofs.CountLemmas.{counted_before, counted_more, summed_more}
use Rattle.count_totals.proofs.counts.sum_of.Goals as goal

pub returns-in_default-clause-missing : goal.returns-in_default-clause-missing
returns-in_default-clause-missing c =
    let counts = c.args.counts.now in
    let place = c.loop-place.place in
    let open_place : slice_get counts place ≡ Some None = slice_get_read counts (length counts) place None refl c.loop-place-test.true (sym c.in_default.is) in
    let same : place + 1 - 1 ≡ place = omega arith in
    (refl, omega arith, rw same open_place, λ earlier before. counted_before counts c.loop-place.invariant.0 place earlier c.loop-place.auto.place-end (omega (arith, before)) c.loop-place.invariant.1)

pub loop-place-preserved : goal.loop-place-preserved
loop-place-preserved c =
    let counts = c.args.counts.now in
    let (numbers, is, summed, few) = c.loop-place.invariant in
    let same = c.from-total.ensures in
    let here : slice_get counts c.loop-place.place ≡ Some (Some c.in-Some.count) = slice_get-get_or counts c.loop-place.place None c.loop-place-test.true ∙ ap (λ o. Some o) c.in-Some.is in
    (numbers ++ c.in-Some.count ∷ [], counted_more counts numbers c.loop-place.place c.in-Some.count is here, ap (λ n. c.loop-place.total + n) same ∙ summed_more numbers c.loop-place.total c.in-Some.count summed, omega (arith, same, few))
