use Rattle.xcc_form.proofs.CoverLemmas.{coloured_cover}
use Rattle.xcc_form.proofs.laws.options_are_sets.Goals as goal

pub returns : goal.returns
returns c = λ x is. coloured_cover x is
