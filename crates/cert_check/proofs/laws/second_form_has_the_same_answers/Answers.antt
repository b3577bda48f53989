use Rattle.cert_check.proofs.AnswerAlike.{same_answers}
use Rattle.cert_check.proofs.laws.second_form_has_the_same_answers.Goals as goal

pub returns : goal.returns
returns c = same_answers
