-- What a worker answers.
use Rattle.std.specs.Prelude.{ℕ, List, Result, Vec, IfOk, IsErrOf}
use Rattle.std.specs.declared.alloc.Global.{Global}
use Rattle.match_puzzle.specs.Puzzle.{Task}
use Rattle.match_puzzle.specs.declared.placements.Placement.{Placement}
use Rattle.match_board.specs.declared.symmetry_lines.SymmetryLine.{SymmetryLine}
use Rattle.find_search.specs.declared.faults.FindFault.{FindFault}
use Rattle.find_search.specs.declared.faults.FindFault.TheVariants.{TooMany}
use Rattle.find_search.specs.Finding.{AreFirstFound, HasTooLargeOrbit}

-- The arrangements are those that were to be found, or the error comes where it may.
pub record IsAnswer (most : ℕ) (p : Task) (lines : List SymmetryLine)
    (r : Result (Vec (List Placement) Global) FindFault) : Type 0 where
  pub found : IfOk r (λ v. AreFirstFound most p lines v.items)
  pub too_many : IsErrOf r TooMany → HasTooLargeOrbit p lines
