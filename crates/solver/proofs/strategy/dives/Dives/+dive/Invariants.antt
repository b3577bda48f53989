use Rattle.solver.proofs.strategy.dives.Dives.+dive.Given as goal

abbrev pub decreases-dive : goal.decreases-dive
decreases-dive g l = l.levels
