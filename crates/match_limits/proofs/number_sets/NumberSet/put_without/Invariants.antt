use Rattle.std.proofs.Common.{◌≡◌, ◌<◌, ◌≤◌, ℕ, get_or, length}
use Rattle.match_limits.specs.declared.number_sets.TheConstants.{WORDS}
use Rattle.match_limits.proofs.SetPairLemmas.{word_without}
use Rattle.match_limits.proofs.number_sets.NumberSet.put_without.Given as goal

abbrev pub invariant-loop-i : goal.invariant-loop-i
invariant-loop-i l = record {
  long : length l.self-inside.words ≡ WORDS;
  end : l.self-inside.end ≡ l.first-inside.end;
  done : (k : ℕ) → k < l.i → get_or l.self-inside.words k 0 ≡ word_without (get_or l.first-inside.words k 0) (get_or l.without-inside.words k 0) (get_or l.last-inside.words k 0);
  rest : (k : ℕ) → l.i ≤ k → get_or l.self-inside.words k 0 ≡ 0;
}
