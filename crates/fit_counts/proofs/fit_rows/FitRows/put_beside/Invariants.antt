use Rattle.fit_counts.proofs.FitRowLemmas.{AreRowsPast}
use Rattle.fit_counts.proofs.fit_rows.FitRows.put_beside.Given as goal

abbrev pub invariant-loop-side : goal.invariant-loop-side
invariant-loop-side l = AreRowsPast l.partial.puzzle l.partial.placed l.cell l.side l.self
