use Rattle.std.proofs.Common.{◌≡◌, IfErr, refl, subst, sym}
use Rattle.cert_check.specs.Answer.{IsAnswer}
use Rattle.cert_check.specs.declared.faults.Answer.TheVariants.{Complete, Refused}
use Rattle.cert_check.specs.declared.faults.Fault.{Fault}
use Rattle.byte_streams.specs.LentTexts.{texts_of}
use Rattle.command_runs.specs.Pages.{PrintsPage}
use Rattle.command_runs.proofs.page_runs.question_page.Goals.{In-Err}
use Rattle.command_runs.proofs.page_runs.question_page.Goals as goal

-- the fault for which the list is refused
first : (c : In-Err) → IsAnswer c.args.question.now (Refused c.in-Err.fault)
first c = subst (λ r. IfErr r (λ fault. IsAnswer c.args.question.now (Refused fault))) c.in-Err.is c.in_ok-prepared.ensures.refused

pub refused_line-requires : goal.refused_line-requires
refused_line-requires c = first (goal.at.refused_line-requires c).In-Err

other : (fault : Fault) → Refused fault ≡ Complete → ⊥
other fault e = cc

pub returns-in_ok-text-in-Err : goal.returns-in_ok-text-in-Err
returns-in_ok-text-in-Err c =
    record {
      answer = Refused c.in-Err.fault;
      answered = first (goal.at.returns-in_ok-text-in-Err c).In-Err;
      sound = λ e. absurd (other c.in-Err.fault e);
      is = subst (PrintsPage c.args.plan.now (texts_of c.args.documents.now) c.args.question.now (Refused c.in-Err.fault)) (sym c.new-in-Err.ensures) c.in_ok-text-in-Err.ensures;
      ends = refl;
    }
