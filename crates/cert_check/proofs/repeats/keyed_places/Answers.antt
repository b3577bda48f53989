use Rattle.std.proofs.Common.{◌+◌, sym, subst, arith}
use Rattle.cert_check.proofs.RepeatLemmas.{AreKeyed, entry_at, none_keyed, one_more_keyed, all_keyed}
use Rattle.cert_check.proofs.repeats.keyed_places.Goals as goal

pub loop-place-init : goal.loop-place-init
loop-place-init c = subst (AreKeyed c.args.listed.now 0) (sym c.in_ok-places.ensures.items) (none_keyed c.args.listed.now)

pub loop-place-preserved : goal.loop-place-preserved
loop-place-preserved c =
    let listed = c.args.listed.now in
    let n = c.loop-place.place in
    let a = c.index-listed-place.result in
    subst (AreKeyed listed (n + 1)) (sym c.in_ok-push.ensures.items)
    (one_more_keyed listed n c.loop-place.places.items a c.key.result c.loop-place.invariant (entry_at listed n a c.loop-place-test.true c.index-listed-place.is) c.key.ensures)

pub returns : goal.returns
returns c = all_keyed c.args.listed.now c.loop-place.place c.loop-place.places.items (omega arith) c.loop-place.invariant
