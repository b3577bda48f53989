use Rattle.std.proofs.Common.{subst}
use Rattle.cert_check.specs.Setting.{Question}
use Rattle.cert_check.specs.Walk.{TellsOfArrangements}
use Rattle.cert_check.proofs.questions.Question.list_fault.Goals as goal

pub returns : goal.returns
returns c = subst (λ (q : Question). TellsOfArrangements q.puzzle q.listed c.list_fault.result) c.self.view_is c.list_fault.ensures
