-- How it is told why a puzzle was not solved.
use Rattle.std.specs.Prelude.{ℕ, List, codes}
use Rattle.solver.specs.declared.faults.SolveFault.{SolveFault}
use Rattle.solver.specs.declared.faults.SolveFault.TheVariants as solves

abbrev pub solve_fault_text : SolveFault → List ℕ
solve_fault_text solves.GaveUp = codes "gave up"
solve_fault_text solves.TooMany = codes "too many options"
solve_fault_text solves.Full = codes "too many arrangements"
solve_fault_text solves.Memory = codes "out of memory"
