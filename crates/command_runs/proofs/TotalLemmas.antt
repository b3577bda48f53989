-- What the sum of counted parts comes to.
use Rattle.std.proofs.Common.{ℕ, List}
use Rattle.count_totals.specs.Totals.{FailsToTotal}
use Rattle.count_totals.specs.declared.faults.PartsFault.{PartsFault}
use Rattle.count_totals.specs.declared.faults.PartsFault.TheVariants as parts
use Rattle.command_runs.specs.FaultText.{run_of_parts}
use Rattle.command_runs.specs.Runs.{IsOfTexts}
use Rattle.command_runs.specs.Totals.{TotalFails}

-- why lines have no total is what a fault says of the text
pub total_fails : (text : List ℕ) (fault : PartsFault) → FailsToTotal text fault → TotalFails text (run_of_parts fault) × IsOfTexts (run_of_parts fault)
unfolding TotalFails
total_fails text parts.Memory fails = (tt, tt)
total_fails text _ fails = (fails, tt)
