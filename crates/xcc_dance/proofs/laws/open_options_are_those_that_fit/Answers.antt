use Rattle.xcc_dance.proofs.OpenFittingLemmas.{open_where_fitting}
use Rattle.xcc_dance.proofs.laws.open_options_are_those_that_fit.Goals as goal

pub returns : goal.returns
returns c = λ x chosen pairs is of. open_where_fitting x is.compiled chosen pairs of is.partial
