use Rattle.std.proofs.Common.{length}
use Rattle.text_words.specs.PlainWords.{number_in}
use Rattle.text_words.specs.Place.{entries}
use Rattle.text_words.proofs.LoopLemmas.{AreRead}
use Rattle.cert_text.proofs.entries.tile_images.Given as goal

abbrev pub invariant-loop-scan : goal.invariant-loop-scan
invariant-loop-scan l = AreRead l.ranges.most_cells (λ room. entries room (number_in 0 l.ranges.last_cell)) l.fn.scan l.images.items l.scan

abbrev pub decreases-loop-scan : goal.decreases-loop-scan
decreases-loop-scan l = length l.scan.words
