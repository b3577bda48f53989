use Rattle.std.proofs.Common.{◌≤◌}
use Rattle.match_board.specs.Borders.{rule_of}
use Rattle.match_puzzle.specs.Tables.{IsNextNumber}
use Rattle.match_puzzle.proofs.ClueFaultLemmas.{AreRight}
use Rattle.match_puzzle.proofs.clue_faults.broken_clue.Given as goal

abbrev pub invariant-loop-place : goal.invariant-loop-place
invariant-loop-place l = record {
  right : AreRight l.board (rule_of l.rules.border.now) l.rules.clues.now l.place l.least;
  passed : l.passed ≤ l.least;
  number : IsNextNumber l.board (l.passed, 0) l.number;
}
