use Rattle.show_reasons.proofs.LawLemmas.{reason_law, told_law}
use Rattle.show_reasons.proofs.laws.reason_laws.Goals as goal

pub returns-clause-reason : goal.returns-clause-reason
returns-clause-reason c = reason_law

pub returns-clause-told : goal.returns-clause-told
returns-clause-told c = told_law
