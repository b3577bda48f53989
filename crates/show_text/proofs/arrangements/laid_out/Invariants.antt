use Rattle.std.proofs.Common.{◌≡◌}
use Rattle.show_text.proofs.ArrangementLemmas.{AreLaid}
use Rattle.show_text.proofs.arrangements.laid_out.Given as goal

abbrev pub invariant-loop-cell : goal.invariant-loop-cell
invariant-loop-cell l = (l.partial.puzzle ≡ l.puzzle) × AreLaid l.arrangement l.cell l.partial.placed
