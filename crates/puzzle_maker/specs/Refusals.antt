-- Why a candidate isn't taken, by the faults of what it calls.
use Rattle.std.specs.Prelude.{◌≡◌, ◌≢◌}
use Rattle.match_puzzle.specs.declared.faults.PuzzleFault.{PuzzleFault}
use Rattle.xcc_form.specs.declared.faults.CompileFault.{CompileFault}
use Rattle.xcc_form.specs.declared.faults.CompileFault.TheVariants as compiles
use Rattle.puzzle_maker.specs.declared.faults.MakeFault.{MakeFault}
use Rattle.puzzle_maker.specs.declared.faults.MakeFault.TheVariants as makes
use Rattle.puzzle_maker.specs.declared.faults.Refusal.{Refusal}
use Rattle.puzzle_maker.specs.declared.faults.Refusal.TheVariants as refusals

-- No fault of a puzzle's parts says that its options are too many.
abbrev pub IsRefusalOf : PuzzleFault → Refusal → Type 0
IsRefusalOf fault refusal = refusal ≢ refusals.TooMany

-- Options that are too many to be compiled are too many for a candidate to be searched.
abbrev pub IsRefusalBy : CompileFault → Refusal → Type 0
IsRefusalBy compiles.TooMany refusal = refusal ≡ refusals.TooMany
IsRefusalBy compiles.Memory refusal = refusal ≡ refusals.Memory

-- That is so where no puzzle is made, too.
abbrev pub IsMakeFaultBy : CompileFault → MakeFault → Type 0
IsMakeFaultBy compiles.TooMany fault = fault ≡ makes.TooMany
IsMakeFaultBy compiles.Memory fault = fault ≡ makes.Memory
