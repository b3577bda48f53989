use Rattle.std.proofs.Common.{subst}
use Rattle.cert_check.specs.Walk.{TellsOfArrangements}
use Rattle.cert_check.proofs.CheckLemmas.{first_list}
use Rattle.cert_check.proofs.questions.Question.prepare.Goals as goal

pub returns-in-Some-clause-fault : goal.returns-in-Some-clause-fault
returns-in-Some-clause-fault c =
    let question = c.args.self.now in
    first_list question c.in-Some.number c.in-Some.fault (subst (TellsOfArrangements question.puzzle question.listed) c.in-Some.is c.requires)
