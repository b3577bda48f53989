use Rattle.xcc_dance.proofs.OpenFittingLemmas.{branched_on_where_fewest}
use Rattle.xcc_dance.proofs.laws.branch_items_have_the_fewest.Goals as goal

pub returns : goal.returns
returns c = λ x chosen pairs is of. branched_on_where_fewest x is.compiled chosen pairs of is.partial
