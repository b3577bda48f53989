use Rattle.std.proofs.Common.{subst}
use Rattle.std.proofs.lemmas.Result.{err_from_is_err_and}
use Rattle.cert_check.specs.Setting.{Question}
use Rattle.byte_streams.specs.Documents.{Texts}
use Rattle.command_runs.specs.Checking.{CheckFails, Spells}
use Rattle.command_runs.specs.Printing.{IsPrinted, QuestionFails}
use Rattle.command_runs.specs.Runs.{MadeOf}
use Rattle.command_runs.proofs.RunLemmas.{printed_of, printing_fails, printing_kind}
use Rattle.command_runs.proofs.printing_runs.printing_of.Goals as goal

pub returns-in_err-owned : goal.returns-in_err-owned
returns-in_err-owned g c =
    let w = err_from_is_err_and c.from_residual.result c.from_residual.ensures.1 in
    let fault = c.in_err-owned.field-0.0 in
    let texts = c.args.texts.now in
    let fails = printing_fails c.args.printing texts fault (subst (λ (t : Texts). CheckFails t fault) c.lend-documents.ensures.texts c.in_err-owned.ensures) in
    rw (w.1, w.2) (fails, printing_kind c.args.printing texts fault fails)

pub returns : goal.returns
returns g c =
    let owned = c.in_ok-owned.owned in
    printed_of c.args.printing c.args.texts.now owned (subst (λ (t : Texts). Spells t owned) c.lend-documents.ensures.texts c.in_ok-owned.ensures.0) c.question_text.result
    (subst (λ (q : Question). MadeOf (IsPrinted c.args.printing) (QuestionFails c.args.printing) q c.question_text.result) c.question.ensures c.question_text.ensures)
