use Rattle.std.proofs.Common.{length}
use Rattle.text_words.specs.Words.{placement_in}
use Rattle.text_words.specs.Place.{entries}
use Rattle.text_words.proofs.LoopLemmas.{AreRead}
use Rattle.match_text.proofs.lists.placements.Given as goal

abbrev pub invariant-loop-scan : goal.invariant-loop-scan
invariant-loop-scan l = AreRead l.ranges.most_cells (λ room. entries room (placement_in l.ranges)) l.fn.scan l.row.items l.scan

abbrev pub decreases-loop-scan : goal.decreases-loop-scan
decreases-loop-scan l = length l.scan.words
