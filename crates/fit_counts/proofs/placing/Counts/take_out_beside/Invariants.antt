use Rattle.fit_counts.specs.Counts.{AreCountsBeside}
use Rattle.fit_counts.proofs.placing.Counts.take_out_beside.Given as goal

abbrev pub invariant-loop-side : goal.invariant-loop-side
invariant-loop-side l = AreCountsBeside l.partial l.pair l.side l.self
