use Rattle.std.proofs.Common.{subst}
use Rattle.count_search.specs.Branches.{IsTotal}
use Rattle.command_runs.proofs.census_runs.counted_together.Goals as goal

pub count_with_crew-requires-clause-selections : goal.count_with_crew-requires-clause-selections
count_with_crew-requires-clause-selections g c = λ κs below. c.requires.selections

pub returns-in_default-clause-fails : goal.returns-in_default-clause-fails
returns-in_default-clause-fails g c = subst (IsTotal c.args.xcc.now c.args.branches.items) c.in_default.is c.in_ok-counted.ensures

pub returns-clause-counted : goal.returns-clause-counted
returns-clause-counted g c = subst (IsTotal c.args.xcc.now c.args.branches.items) c.in-Some.is c.in_ok-counted.ensures
