use Rattle.std.proofs.Common.{length}
use Rattle.text_words.specs.Words.{rule_in}
use Rattle.text_words.specs.Place.{entries}
use Rattle.text_words.proofs.LoopLemmas.{AreRead}
use Rattle.match_text.proofs.puzzles.rules.Given as goal

abbrev pub invariant-loop-scan : goal.invariant-loop-scan
invariant-loop-scan l = AreRead l.ranges.most_rules (λ room. entries room rule_in) l.fn.scan l.rules.items l.scan

abbrev pub decreases-loop-scan : goal.decreases-loop-scan
decreases-loop-scan l = length l.scan.words
