use Rattle.std.proofs.Common.{OnErr, subst}
use Rattle.cert_check.specs.Setting.{Question}
use Rattle.match_puzzle.specs.Arrangement.{AreArrangements}
use Rattle.cert_check.proofs.checks.check.Goals as goal

pub returns-clause-memory : goal.returns-clause-memory
returns-clause-memory c = subst (λ (q : Question). OnErr c.check.result (AreArrangements q.puzzle q.listed)) c.new.ensures c.check.ensures.memory
