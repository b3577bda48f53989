use Rattle.std.proofs.Common.{append_assoc}
use Rattle.count_totals.specs.FaultText.{clash_text}
use Rattle.count_totals.proofs.faults.ClashDisplay.fmt.Goals as goal

pub returns-in-Parts-clause-writes : goal.returns-in-Parts-clause-writes
unfolding clash_text
returns-in-Parts-clause-writes g c = rw c.in-Parts.is (simp append_assoc c.write.ensures.writes)
