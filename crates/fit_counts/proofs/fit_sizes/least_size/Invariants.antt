use Rattle.fit_counts.proofs.LowerLemmas.{IsLeastBefore}
use Rattle.fit_counts.proofs.fit_sizes.least_size.Given as goal

abbrev pub invariant-loop-size : goal.invariant-loop-size
invariant-loop-size l = IsLeastBefore l.sizes l.size-index l.least
