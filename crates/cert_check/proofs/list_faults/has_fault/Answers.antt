use Rattle.std.proofs.Common.{sym, subst}
use Rattle.match_puzzle.specs.Arrangement.{IsArrangement}
use Rattle.cert_check.proofs.AnswerLemmas.{arrangement_no_fault}
use Rattle.cert_check.proofs.list_faults.has_fault.Goals as goal

pub returns-in_default : goal.returns-in_default
returns-in_default c = λ arranged.
    let p = c.args.puzzle.now in
    let same = subst (IsArrangement p) (sym c.placements.ensures) arranged in
    arrangement_no_fault p c.placements.result.now c.in_default.field-0 same c.in_default.ensures.occurs
