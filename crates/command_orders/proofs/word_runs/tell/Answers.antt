use Rattle.std.proofs.Common.{inr}
use Rattle.command_runs.specs.FaultText.{run_fault_text}
use Rattle.command_orders.proofs.word_runs.tell.Goals as goal

pub returns-in-Err : goal.returns-in-Err
unfolding run_fault_text
returns-in-Err g c = inr c.put-in-Err.ensures
