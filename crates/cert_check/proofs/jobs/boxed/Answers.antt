use Rattle.std.proofs.Common.{Some, ap, sym, ◌∙◌}
use Rattle.cert_check.proofs.jobs.boxed.Goals as goal

pub returns : goal.returns
returns c = ap Some c.in_ok-new.ensures.ok ∙ sym c.in-Some.is
