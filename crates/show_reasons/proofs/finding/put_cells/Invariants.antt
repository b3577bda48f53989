use Rattle.show_reasons.specs.Reasons.{AreReasonsBefore}
use Rattle.show_reasons.proofs.finding.put_cells.Given as goal

abbrev pub invariant-loop-cell : goal.invariant-loop-cell
invariant-loop-cell l = AreReasonsBefore l.partial.puzzle (1, l.cell) l.reasons.items
