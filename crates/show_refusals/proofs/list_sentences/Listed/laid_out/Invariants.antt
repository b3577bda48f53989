use Rattle.std.proofs.Common.{◌≡◌}
use Rattle.show_refusals.proofs.list_sentences.Listed.laid_out.Given as goal

abbrev pub invariant-loop-cell : goal.invariant-loop-cell
invariant-loop-cell l = l.partial.puzzle ≡ l.self.puzzle.now
