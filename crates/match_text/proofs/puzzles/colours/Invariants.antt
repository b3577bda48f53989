use Rattle.std.proofs.Common.{length}
use Rattle.match_limits.specs.declared.TheConstants.{MOST_COLOURS}
use Rattle.text_words.specs.Words.{colour_in}
use Rattle.text_words.specs.Place.{entries}
use Rattle.text_words.proofs.LoopLemmas.{AreRead}
use Rattle.match_text.proofs.puzzles.colours.Given as goal

abbrev pub invariant-loop-scan : goal.invariant-loop-scan
invariant-loop-scan l = AreRead MOST_COLOURS (λ room. entries room colour_in) l.fn.scan l.colours.items l.scan

abbrev pub decreases-loop-scan : goal.decreases-loop-scan
decreases-loop-scan l = length l.scan.words
