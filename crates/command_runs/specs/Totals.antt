-- What the sum of counted parts prints.
use Rattle.std.specs.Prelude.{◌≡◌, ◌-◌, ◌++◌, ℕ, List, Contains, codes, decimal}
use Rattle.count_search.specs.Branches.{HaveTogether, WeightedBranch, every}
use Rattle.count_totals.specs.Totals.{FailsToTotal, HasTotal}
use Rattle.count_totals.specs.declared.faults.PartsFault.TheVariants as parts
use Rattle.count_totals.specs.declared.lines.CountedPart.{CountedPart}
use Rattle.count_totals.specs.declared.lines.Line.{Line}
use Rattle.count_totals.specs.declared.lines.Line.TheVariants as lines
use Rattle.xcc_form.specs.Options.{Compiled}
use Rattle.command_runs.specs.declared.faults.RunFault.{RunFault}
use Rattle.command_runs.specs.declared.faults.RunFault.TheVariants as runs

-- What is printed of lines that counts of parts printed: the sum of what all parts have.
unfoldable pub TotalGives : (text printed : List ℕ) → (ends : Unit {0}) → Type 0
TotalGives text printed ends =
    (total : ℕ) × HasTotal text total × (printed ≡ codes "arrangements " ++ decimal total ++ codes "\n")

-- What a fault says of the text: its first line that is wrong, or else what is missing; or it is want of memory.
unfoldable pub TotalFails : (text : List ℕ) → RunFault → Type 0
TotalFails text (runs.Parts parts.Memory) = ⊥
TotalFails text (runs.Parts fault) = FailsToTotal text fault
TotalFails text runs.Memory = Unit {0}
TotalFails text fault = ⊥

-- Each part that a line names has the number that the line tells, where these branches are dealt to all parts.
abbrev pub AreTrueOf : Compiled → List WeightedBranch → List Line → Type 0
AreTrueOf x branches told =
    (part : CountedPart) → Contains told (lines.Part part)
    → HaveTogether x (every part.parts (part.number - 1) branches) part.count
