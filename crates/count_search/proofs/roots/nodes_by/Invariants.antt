use Rattle.std.proofs.Common.{◌≡◌}
use Rattle.count_search.proofs.roots.nodes_by.Given as goal

abbrev pub invariant-loop-child : goal.invariant-loop-child
invariant-loop-child g l = l.engine ≡ l.initial.engine
