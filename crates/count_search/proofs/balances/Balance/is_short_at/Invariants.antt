use Rattle.std.proofs.Common.{◌≤◌}
use Rattle.count_search.specs.Balance.{surplus}
use Rattle.count_search.proofs.balances.Balance.is_short_at.Given as goal

abbrev pub invariant-loop-colour : goal.invariant-loop-colour
invariant-loop-colour l = l.more ≤ surplus l.self.sides l.side l.colour
