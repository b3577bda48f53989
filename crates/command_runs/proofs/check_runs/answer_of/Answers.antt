use Rattle.std.proofs.Common.{◌∙◌, subst}
use Rattle.std.proofs.lemmas.Result.{err_from_is_err_and}
use Rattle.cert_check.specs.Setting.{Question}
use Rattle.byte_streams.specs.Documents.{Texts}
use Rattle.command_runs.specs.Checking.{CheckFails, IsAnswered, Spells}
use Rattle.command_runs.proofs.RunLemmas.{check_kind}
use Rattle.command_runs.proofs.check_runs.answer_of.Goals as goal

pub returns-in_err-owned : goal.returns-in_err-owned
returns-in_err-owned g c =
    let w = err_from_is_err_and c.from_residual.result c.from_residual.ensures.1 in
    let fault = c.in_err-owned.field-0.0 in
    let fails = subst (λ (t : Texts). CheckFails t fault) c.lend.ensures.texts c.in_err-owned.ensures in
    rw (w.1, w.2) (fails, check_kind c.args.texts.now fault fails)

pub returns : goal.returns
returns g c =
    let owned = c.in_ok-owned.owned in
    let said = subst (λ (q : Question). IsAnswered q c.in_ok-verdict.verdict) c.question.ensures c.in_ok-verdict.ensures in
    record {
      question = owned;
      answer = said.answer;
      spelled = subst (λ (t : Texts). Spells t owned) c.lend.ensures.texts c.in_ok-owned.ensures.0;
      answered = said.answered;
      sound = said.sound;
      is = c.new.ensures ∙ said.line;
      ends = said.status;
    }
