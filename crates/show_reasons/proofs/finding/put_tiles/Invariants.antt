use Rattle.show_reasons.specs.Reasons.{AreReasonsBefore}
use Rattle.show_reasons.proofs.finding.put_tiles.Given as goal

abbrev pub invariant-loop-tile : goal.invariant-loop-tile
invariant-loop-tile l = AreReasonsBefore l.partial.puzzle (2, l.tile) l.reasons.items
