use Rattle.std.proofs.Common.{OnErr, subst}
use Rattle.cert_check.specs.Setting.{Question}
use Rattle.match_puzzle.specs.Arrangement.{AreArrangements}
use Rattle.cert_check.proofs.crew_checks.check_with.Goals as goal

pub returns-clause-memory : goal.returns-clause-memory
returns-clause-memory g c = subst (λ (q : Question). OnErr c.check_question.result (AreArrangements q.puzzle q.listed)) c.new-question.ensures c.check_question.ensures.memory
