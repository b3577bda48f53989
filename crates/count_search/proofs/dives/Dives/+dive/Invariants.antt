use Rattle.count_search.proofs.dives.Dives.+dive.Given as goal

abbrev pub decreases-dive : goal.decreases-dive
decreases-dive g l = l.levels
