use Rattle.std.proofs.Common.{arith}
use Rattle.xcc_form.proofs.xccs.Xcc.secondaries.Goals as goal

pub overflow_cast-result : goal.overflow_cast-result
overflow_cast-result c = omega (arith, c.self.invariant.few_shared, c.len.ensures, c.self.inside.shared.ok.0)
