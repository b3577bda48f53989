use Rattle.cert_check.proofs.crew_checks.answer_by_crew.Goals as goal

pub returns-clause-answer : goal.returns-clause-answer
returns-clause-answer g c = c.answer.ensures.answer

pub returns-clause-complete : goal.returns-clause-complete
returns-clause-complete g c = c.answer.ensures.complete

pub returns-clause-covered : goal.returns-clause-covered
returns-clause-covered g c = c.answer.ensures.covered
