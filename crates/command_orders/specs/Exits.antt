-- How the program ends.
use Rattle.std.specs.Prelude.{ℕ}
use Rattle.command_runs.specs.declared.faults.RunFault.{RunFault}
use Rattle.command_runs.specs.declared.faults.RunFault.TheVariants as runs
use Rattle.puzzle_maker.specs.declared.faults.MakeFault.{MakeFault}
use Rattle.puzzle_maker.specs.declared.faults.MakeFault.TheVariants as makes
use Rattle.match_report.specs.declared.statuses.Status.{Status}
use Rattle.match_report.specs.declared.statuses.Status.TheVariants as status
use Rattle.command_orders.specs.declared.exits.Exit.{Exit}
use Rattle.command_orders.specs.declared.exits.Exit.TheVariants.{Done, Refused, Failed, Unsolved}

-- the exit status
abbrev pub code_of : Exit → ℕ
code_of Done = 0
code_of Refused = 1
code_of Failed = 2
code_of Unsolved = 3

-- how a check ends
abbrev pub status_exit : Status → Exit
status_exit status.Complete = Done
status_exit status.Refused = Refused

-- how a run ends that made no puzzle: that none was found is told apart from what can't be had
abbrev pub make_exit : MakeFault → Exit
make_exit makes.GaveUp = Unsolved
make_exit makes.TooMany = Unsolved
make_exit fault = Failed

-- how a run ends that a fault stopped: that a puzzle was not solved is told apart, and that what a solve found was
-- refused by a check
abbrev pub fault_exit : RunFault → Exit
fault_exit (runs.Solve fault) = Unsolved
fault_exit (runs.Make fault) = make_exit fault
fault_exit runs.Refused = Refused
fault_exit fault = Failed
