use Rattle.std.proofs.Common.{◌≡◌}
use Rattle.find_search.proofs.searches.Search.run_passes.Given as goal

-- Each pass begins where nothing is chosen.
abbrev pub invariant-loop : goal.invariant-loop
invariant-loop g l = l.engine ≡ l.initial.engine
