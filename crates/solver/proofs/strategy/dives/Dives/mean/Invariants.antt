use Rattle.std.proofs.Common.{◌≡◌}
use Rattle.solver.proofs.strategy.dives.Dives.mean.Given as goal

abbrev pub invariant-loop : goal.invariant-loop
invariant-loop g l = l.engine ≡ l.initial.engine
