use Rattle.std.proofs.Common.{length, codes}
use Rattle.match_limits.specs.declared.TheConstants.{MOST_COLOURS}
use Rattle.text_words.specs.Words.{colour_in}
use Rattle.text_words.proofs.LoopLemmas.{AreRead}
use Rattle.cert_text.specs.Entries.{entries_before}
use Rattle.cert_text.proofs.entries.colour_images.Given as goal

abbrev pub invariant-loop-scan : goal.invariant-loop-scan
invariant-loop-scan l = AreRead MOST_COLOURS (λ room. entries_before (codes "tiles") room colour_in) l.fn.scan l.images.items l.scan

abbrev pub decreases-loop-scan : goal.decreases-loop-scan
decreases-loop-scan l = length l.scan.words
