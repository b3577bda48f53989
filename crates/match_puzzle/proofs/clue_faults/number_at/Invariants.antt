use Rattle.match_puzzle.specs.Tables.{IsNextNumber}
use Rattle.match_puzzle.proofs.clue_faults.number_at.Given as goal

abbrev pub invariant-loop-passed : goal.invariant-loop-passed
invariant-loop-passed l = IsNextNumber l.board (l.passed, 0) l.count
