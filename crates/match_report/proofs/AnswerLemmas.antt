-- Answers that have a line.
use Rattle.std.proofs.Common.{arith}
use Rattle.match_puzzle.specs.Puzzle.{Task, IsPuzzle}
use Rattle.match_board.specs.declared.symmetry_lines.SymmetryLine.{SymmetryLine}
use Rattle.puzzle_symmetry.specs.SymmetryFaults.{SymmetryFails}
use Rattle.puzzle_symmetry.specs.declared.faults.SymmetryFault.{SymmetryFault}
use Rattle.puzzle_symmetry.specs.declared.faults.SymmetryFault.TheVariants as symmetries
use Rattle.puzzle_symmetry.proofs.FaultLemmas.{few_colours}
use Rattle.cert_check.specs.Setting.{Question}
use Rattle.cert_check.specs.Answer.{IsAnswer}
use Rattle.cert_check.specs.declared.faults.Answer.{Answer}
use Rattle.cert_check.specs.declared.faults.Answer.TheVariants.{Refused}
use Rattle.cert_check.specs.declared.faults.Fault.TheVariants as checks
use Rattle.match_report.specs.AnswerText.{HasLine, HasWords}

-- a fault that a symmetry's line has, has words
has_words : (p : Task) (g : SymmetryLine) → IsPuzzle p → (fault : SymmetryFault) → SymmetryFails p g fault → HasWords fault
has_words p g puzzle (symmetries.MatesBroken colour) fails = let few = few_colours p puzzle fails.1 in omega (arith, few, fails.2)
has_words p g puzzle symmetries.Memory fails = fails
has_words p g puzzle _ fails = tt

-- an answer has a line
pub has_line : (question : Question) (answer : Answer) → IsPuzzle question.puzzle → IsAnswer question answer → HasLine answer
has_line question (Refused (checks.Symmetry number fault)) puzzle is = has_words question.puzzle is.occurs.0 puzzle fault is.occurs.2.occurs
has_line question _ puzzle is = tt
