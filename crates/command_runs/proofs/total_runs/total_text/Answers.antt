use Rattle.std.proofs.Common.{ℕ, List, subst}
use Rattle.std.proofs.lemmas.Result.{err_from_is_err_and}
use Rattle.count_totals.specs.Totals.{FailsToTotal}
use Rattle.command_runs.proofs.TotalLemmas.{total_fails}
use Rattle.command_runs.proofs.total_runs.total_text.Goals as goal

pub returns-in_err-total : goal.returns-in_err-total
returns-in_err-total c =
    let w = err_from_is_err_and c.from_residual.result c.from_residual.ensures.1 in
    rw (w.1, w.2) (total_fails c.args.text.now c.in_err-total.field-0.0 (subst (λ (t : List ℕ). FailsToTotal t c.in_err-total.field-0.0) c.bytes.ensures.bytes c.in_err-total.ensures.fault))
