use Rattle.match_limits.proofs.SetPairLemmas.{IsMask, NoneInBoth}
use Rattle.match_limits.proofs.number_sets.NumberSet.next_in_both.Given as goal

abbrev pub invariant-loop-i : goal.invariant-loop-i
invariant-loop-i l = record {
  mask : IsMask l.mask l.from l.i;
  none : NoneInBoth l.self-inside.words l.other-inside.words l.from l.i;
}
