use Rattle.xcc_form.proofs.CoverLemmas.{only_one}
use Rattle.xcc_form.proofs.laws.compiled_in_one_way.Goals as goal

pub returns : goal.returns
returns c = λ x is. only_one x is
