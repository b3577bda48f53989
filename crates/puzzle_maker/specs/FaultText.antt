-- How it is told why no puzzle is made.
use Rattle.std.specs.Prelude.{ℕ, List, codes}
use Rattle.puzzle_drafts.specs.MisfitText.{misfit_text}
use Rattle.puzzle_maker.specs.declared.faults.MakeFault.{MakeFault}
use Rattle.puzzle_maker.specs.declared.faults.MakeFault.TheVariants.{Misfit, GaveUp, TooMany, Memory}

abbrev pub make_fault_text : MakeFault → List ℕ
make_fault_text (Misfit misfit) = misfit_text misfit
make_fault_text GaveUp = codes "gave up"
make_fault_text TooMany = codes "too many options"
make_fault_text Memory = codes "out of memory"
