use Rattle.xcc_dance.proofs.OpenFittingLemmas.{stand_as_pairs}
use Rattle.xcc_dance.proofs.laws.options_stand_as_pairs.Goals as goal

pub returns : goal.returns
returns c = λ x is. stand_as_pairs x is
