use Rattle.fit_counts.proofs.NextFittingLemmas.{none_behind, some_behind}
use Rattle.fit_counts.proofs.behind.place_behind.Goals as goal

pub returns-in-None-clause-turns : goal.returns-in-None-clause-turns
returns-in-None-clause-turns c = none_behind c.args.after c.in-None.is

pub returns-in-Some-clause-turns : goal.returns-in-Some-clause-turns
returns-in-Some-clause-turns c = some_behind c.args.after c.in-Some.pair c.in-Some.is c.requires
