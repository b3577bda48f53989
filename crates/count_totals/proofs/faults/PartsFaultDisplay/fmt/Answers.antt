use Rattle.std.proofs.Common.{append_assoc}
use Rattle.count_totals.specs.FaultText.{parts_fault_text}
use Rattle.count_totals.proofs.faults.PartsFaultDisplay.fmt.Goals as goal

pub returns-in-Missing-clause-writes : goal.returns-in-Missing-clause-writes
unfolding parts_fault_text
returns-in-Missing-clause-writes g c = rw c.in-Missing.is (simp append_assoc c.write-in-Missing.ensures.writes)
