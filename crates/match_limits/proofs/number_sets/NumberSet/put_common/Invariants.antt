use Rattle.std.proofs.Common.{◌≡◌, ◌<◌, ◌≤◌, ◌*◌, ℕ, get_or, length}
use Rattle.match_limits.specs.declared.number_sets.TheConstants.{WORDS}
use Rattle.match_limits.proofs.NumberSetLemmas.{and_all}
use Rattle.match_limits.proofs.number_sets.NumberSet.put_common.Given as goal

abbrev pub invariant-loop-block : goal.invariant-loop-block
invariant-loop-block l = record {
  long : length l.self-inside.words ≡ WORDS;
  end : l.self-inside.end ≡ l.all-inside.end;
  done : (k : ℕ) → k < 4 * l.block → get_or l.self-inside.words k 0 ≡ and_all (get_or l.all-inside.words k 0) (get_or l.first-inside.words k 0) (get_or l.second-inside.words k 0) (get_or l.third-inside.words k 0) (get_or l.fourth-inside.words k 0);
  rest : (k : ℕ) → 4 * l.block ≤ k → get_or l.self-inside.words k 0 ≡ get_or l.initial.self-inside.words k 0;
}

abbrev pub invariant-loop-i : goal.invariant-loop-i
invariant-loop-i l = record {
  long : length l.self-inside.words ≡ WORDS;
  end : l.self-inside.end ≡ l.all-inside.end;
  done : (k : ℕ) → k < l.i → get_or l.self-inside.words k 0 ≡ and_all (get_or l.all-inside.words k 0) (get_or l.first-inside.words k 0) (get_or l.second-inside.words k 0) (get_or l.third-inside.words k 0) (get_or l.fourth-inside.words k 0);
  rest : (k : ℕ) → l.i ≤ k → get_or l.self-inside.words k 0 ≡ get_or l.initial.self-inside.words k 0;
}
