use Rattle.std.proofs.Common.{◌≡◌}
use Rattle.count_search.proofs.dives.Dives.mean.Given as goal

abbrev pub invariant-loop : goal.invariant-loop
invariant-loop g l = l.engine ≡ l.initial.engine
