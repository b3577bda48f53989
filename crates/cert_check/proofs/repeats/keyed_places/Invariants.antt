use Rattle.cert_check.proofs.RepeatLemmas.{AreKeyed}
use Rattle.cert_check.proofs.repeats.keyed_places.Given as goal

abbrev pub invariant-loop-place : goal.invariant-loop-place
invariant-loop-place l = AreKeyed l.listed l.place l.places.items
