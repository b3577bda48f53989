use Rattle.std.proofs.Common.{◌≡◌, IfErr, refl, subst, sym}
use Rattle.cert_check.specs.Answer.{IsAnswer}
use Rattle.cert_check.specs.declared.faults.Answer.TheVariants.{Complete, Refused}
use Rattle.cert_check.specs.declared.faults.Fault.{Fault}
use Rattle.command_runs.specs.Printing.{Prints}
use Rattle.command_runs.proofs.printing_runs.question_text.Goals.{In-Err}
use Rattle.command_runs.proofs.printing_runs.question_text.Goals as goal

-- the fault for which the list is refused
first : (c : In-Err) → IsAnswer c.args.question.now (Refused c.in-Err.fault)
first c = subst (λ r. IfErr r (λ fault. IsAnswer c.args.question.now (Refused fault))) c.in-Err.is c.in_ok-prepared.ensures.refused

pub refused_text-requires : goal.refused_text-requires
refused_text-requires c = first (goal.at.refused_text-requires c).In-Err

other : (fault : Fault) → Refused fault ≡ Complete → ⊥
other fault e = cc

pub returns-in_ok-text-in-Err : goal.returns-in_ok-text-in-Err
returns-in_ok-text-in-Err c =
    record {
      answer = Refused c.in-Err.fault;
      answered = first (goal.at.returns-in_ok-text-in-Err c).In-Err;
      sound = λ e. absurd (other c.in-Err.fault e);
      is = subst (Prints c.args.question.now (Refused c.in-Err.fault) c.args.printing) (sym c.new.ensures) c.in_ok-text-in-Err.ensures;
      ends = refl;
    }
