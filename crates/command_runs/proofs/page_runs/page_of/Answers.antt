use Rattle.std.proofs.Common.{subst}
use Rattle.std.proofs.lemmas.Result.{err_from_is_err_and}
use Rattle.cert_check.specs.Setting.{Question}
use Rattle.byte_streams.specs.Documents.{Texts}
use Rattle.byte_streams.specs.LentTexts.{texts_of}
use Rattle.command_runs.specs.Checking.{CheckFails, Spells}
use Rattle.command_runs.specs.Pages.{IsPagePrinted}
use Rattle.command_runs.specs.Printing.{QuestionFails}
use Rattle.command_runs.specs.Runs.{MadeOf}
use Rattle.command_runs.specs.declared.printing_runs.Printing.TheVariants as printings
use Rattle.command_runs.proofs.RunLemmas.{page_printed_of, printing_fails, printing_kind}
use Rattle.command_runs.proofs.page_runs.page_of.Goals as goal

pub returns-in_err-owned : goal.returns-in_err-owned
returns-in_err-owned g c =
    let w = err_from_is_err_and c.from_residual.result c.from_residual.ensures.1 in
    let fault = c.in_err-owned.field-0.0 in
    let texts = c.args.texts.now in
    let fails = printing_fails printings.Count texts fault (subst (λ (t : Texts). CheckFails t fault) c.lend-documents.ensures.texts c.in_err-owned.ensures) in
    rw (w.1, w.2) (fails, printing_kind printings.Count texts fault fails)

pub returns : goal.returns
returns g c =
    let owned = c.in_ok-owned.owned in
    let plan = c.args.plan.now in
    let texts = c.lend-documents.ensures.texts in
    let result = c.question_page.result in
    page_printed_of plan c.args.texts.now owned (subst (λ (t : Texts). Spells t owned) texts c.in_ok-owned.ensures.0) result
    (subst (λ (t : Texts). MadeOf (IsPagePrinted t plan) (QuestionFails printings.Count) owned result) texts
    (subst (λ (q : Question). MadeOf (IsPagePrinted (texts_of c.lend-documents.result) plan) (QuestionFails printings.Count) q result) c.question.ensures c.question_page.ensures))
