use Rattle.std.proofs.Common.{◌≡◌, ◌-◌}
use Rattle.match_limits.specs.NumberSets.{members, words_from, AreWordsFrom}
use Rattle.match_limits.specs.declared.number_sets.TheConstants.{WORDS}
use Rattle.match_limits.proofs.number_sets.Members.take_first.Given as goal

abbrev pub invariant-loop-self : goal.invariant-loop-self
invariant-loop-self l = record {
  are : AreWordsFrom l.self-inside.words.now l.self-inside.end l.self-inside.place l.self-inside.word;
  same : members (words_from l.self-inside.words.now l.self-inside.place l.self-inside.word) ≡ members (words_from l.initial.self-inside.words.now l.initial.self-inside.place l.initial.self-inside.word);
}

abbrev pub decreases-loop-self : goal.decreases-loop-self
decreases-loop-self l = WORDS - l.self-inside.place
