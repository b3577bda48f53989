use Rattle.std.proofs.Common.{◌≡◌, ◌≤◌, ◌*◌, take, count_ones}
use Rattle.match_limits.specs.declared.number_sets.TheConstants.{WORD_BITS}
use Rattle.match_limits.specs.NumberSets.{joined}
use Rattle.match_limits.proofs.number_sets.NumberSet.len.Given as goal

abbrev pub invariant-loop-word : goal.invariant-loop-word
invariant-loop-word l = record {
  counted : l.count ≡ count_ones (joined (take l.word-index l.word-items));
  few : l.count ≤ WORD_BITS * l.word-index;
}
