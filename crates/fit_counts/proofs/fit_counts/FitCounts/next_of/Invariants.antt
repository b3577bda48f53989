use Rattle.fit_counts.specs.Placing.{placed_by}
use Rattle.fit_counts.proofs.NextFittingLemmas.{AreTurnsBehind, NoneBefore}
use Rattle.fit_counts.proofs.fit_counts.FitCounts.next_of.Given as goal

abbrev pub invariant-loop-cell : goal.invariant-loop-cell
invariant-loop-cell l = record {
  turns : AreTurnsBehind l.fn.after l.cell l.turns;
  none : NoneBefore l.fn.self.puzzle (placed_by l.fn.self) l.tile l.fn.after l.cell;
}
