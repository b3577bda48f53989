use Rattle.std.proofs.Common.{codes, refl, subst}
use Rattle.command_words.specs.Orders.{IsExtent}
use Rattle.command_words.proofs.ExtentLemmas.{asks_some}
use Rattle.command_words.proofs.MisfitLemmas.{misfits, no_search}
use Rattle.command_words.proofs.readings.count_given.Goals as goal

pub returns-in_default : goal.returns-in_default
returns-in_default c = λ rows given extent workers. (
  tt,
  misfits (codes "count") rows c.misfit.result c.misfit.ensures
      (no_search rows c.args.given c.args.extent given extent (asks_some rows c.args.extent c.in_default.not-All extent)),
)

pub returns : goal.returns
returns c = λ rows given extent workers. ((refl, given, subst (IsExtent rows) c.in-All.is extent, workers), tt)
