use Rattle.fit_counts.proofs.CountedLemmas.{kept_fit}
use Rattle.fit_counts.proofs.fit_counts.FitCounts.pairs.Goals as goal

pub returns-clause-fit : goal.returns-clause-fit
returns-clause-fit c = kept_fit c.self.inside.partial.puzzle c.self.inside.pairs.items c.self.inside.partial.placed c.self.inside.counts.rows c.self.inside.counts.sizes.items c.self.inside.saved.items c.self.invariant c.args.self.now c.self.view_is
