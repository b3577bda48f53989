use Rattle.std.proofs.Common.{◌≡◌, ◌<◌, ℕ, get_or}
use Rattle.match_limits.proofs.number_sets.NumberSet.take_first.Given as goal

abbrev pub invariant-loop-i : goal.invariant-loop-i
invariant-loop-i l = record {
  same : l.self-inside ≡ l.initial.self-inside;
  none : (k : ℕ) → k < l.i → get_or l.self-inside.words k 0 ≡ 0;
}
