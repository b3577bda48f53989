use Rattle.std.proofs.Common.{◌≡◌, Result, Ok, Err, IfOk, OnErr, subst}
use Rattle.cert_check.specs.Setting.{Question}
use Rattle.match_puzzle.specs.Arrangement.{AreArrangements}
use Rattle.cert_check.proofs.crew_checks.check_question.Goals as goal

on_err : {X E A : Type 0} (r : Result X E) → A → OnErr r A
on_err (Ok x) a = tt
on_err (Err e) a = a

pub returns-in-Ok-clause-memory : goal.returns-in-Ok-clause-memory
returns-in-Ok-clause-memory g c =
    let same = subst (λ r. IfOk r (λ (q : Question). q ≡ c.args.question.now)) c.in-Ok.is c.in_ok-prepared.ensures.prepared in
    on_err c.answer_by_crew.result (subst (λ (q : Question). AreArrangements q.puzzle q.listed) same c.answer_by_crew.ensures.arrangements)
