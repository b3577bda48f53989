use Rattle.std.proofs.Common.{◌≡◌, ◌<◌, ◌≤◌, ℕ, bit_and, get_or, length}
use Rattle.match_limits.specs.declared.number_sets.TheConstants.{WORDS}
use Rattle.match_limits.proofs.number_sets.NumberSet.keep.Given as goal

abbrev pub invariant-loop-i : goal.invariant-loop-i
invariant-loop-i l = record {
  long : length l.self-inside.words ≡ WORDS;
  end : l.self-inside.end ≡ l.initial.self-inside.end;
  done : (k : ℕ) → k < l.i → get_or l.self-inside.words k 0 ≡ bit_and (get_or l.initial.self-inside.words k 0) (get_or l.kept-inside.words k 0);
  rest : (k : ℕ) → l.i ≤ k → get_or l.self-inside.words k 0 ≡ get_or l.initial.self-inside.words k 0;
}
