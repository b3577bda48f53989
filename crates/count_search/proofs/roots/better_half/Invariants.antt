use Rattle.std.proofs.Common.{◌≡◌}
use Rattle.count_search.proofs.roots.better_half.Given as goal

abbrev pub invariant-loop-old : goal.invariant-loop-old
invariant-loop-old g l = l.engine ≡ l.initial.engine
