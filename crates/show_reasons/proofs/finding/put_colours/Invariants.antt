use Rattle.show_reasons.specs.Reasons.{AreReasonsBefore}
use Rattle.show_reasons.proofs.finding.put_colours.Given as goal

abbrev pub invariant-loop-colour : goal.invariant-loop-colour
invariant-loop-colour l = AreReasonsBefore l.puzzle (0, l.colour) l.reasons.items
