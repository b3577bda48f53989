use Rattle.std.proofs.Common.{refl}
use Rattle.cert_check.proofs.ForkLemmas.{taken_after}
use Rattle.cert_check.proofs.scenes.pairs_from.Goals as goal

pub loop-init : goal.loop-init
loop-init c = (c.fitting-pairs.result, c.fitting-pairs.ensures, refl)

pub loop-preserved : goal.loop-preserved
loop-preserved c =
    let h = c.loop.invariant in
    (h.0, h.1, taken_after c.loop.counter h.0 c.loop.pairs c.take_first.new.self c.take_first.result h.2 c.take_first.ensures)
