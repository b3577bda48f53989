-- The words of what may be wrong with counted parts.
use Rattle.std.specs.Prelude.{ℕ, List, ◌++◌, codes, decimal}
use Rattle.count_totals.specs.declared.faults.Clash.{Clash}
use Rattle.count_totals.specs.declared.faults.Clash.TheVariants as clashes
use Rattle.count_totals.specs.declared.faults.PartsFault.{PartsFault}
use Rattle.count_totals.specs.declared.faults.PartsFault.TheVariants as faults

unfoldable pub clash_text : Clash → List ℕ
clash_text clashes.Puzzle = codes "another puzzle"
clash_text clashes.Split = codes "another split"
clash_text (clashes.Parts parts earlier) =
    codes "of " ++ decimal parts ++ codes " parts, and of " ++ decimal earlier ++ codes " before"
clash_text (clashes.Count number parts earlier) =
    codes "part " ++ decimal number ++ codes "/" ++ decimal parts ++ codes " was " ++ decimal earlier ++ codes " before"

unfoldable pub parts_fault_text : PartsFault → List ℕ
parts_fault_text (faults.Ends line) = codes "line " ++ decimal line ++ codes ": no line end"
parts_fault_text (faults.Unknown line) = codes "line " ++ decimal line ++ codes ": no line of count --part"
parts_fault_text (faults.Clashes line clash) = codes "line " ++ decimal line ++ codes ": " ++ clash_text clash
parts_fault_text faults.NoPuzzle = codes "no line puzzle"
parts_fault_text faults.NoSplit = codes "no line split"
parts_fault_text faults.NoPart = codes "no line part"
parts_fault_text (faults.Missing number parts) =
    codes "part " ++ decimal number ++ codes "/" ++ decimal parts ++ codes " is missing"
parts_fault_text faults.Memory = codes "out of memory"
