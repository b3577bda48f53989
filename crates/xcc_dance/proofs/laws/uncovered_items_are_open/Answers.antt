use Rattle.xcc_dance.proofs.OpenFittingLemmas.{uncovered_where_open}
use Rattle.xcc_dance.proofs.laws.uncovered_items_are_open.Goals as goal

pub returns : goal.returns
returns c = λ x chosen pairs is of. uncovered_where_open x is.compiled chosen pairs of is.partial
