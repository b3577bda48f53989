use Rattle.cert_check.proofs.RepeatLemmas.{LeastNeighbour}
use Rattle.cert_check.proofs.repeats.least_repeated.Given as goal

abbrev pub invariant-loop-next : goal.invariant-loop-next
invariant-loop-next l = LeastNeighbour l.listed l.places l.next l.least
