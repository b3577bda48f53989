use Rattle.xcc_form.proofs.WholeLemmas.{are_one_to_one}
use Rattle.xcc_form.proofs.laws.solutions_are_arrangements.Goals as goal

pub returns : goal.returns
returns c = λ x is. are_one_to_one x is
