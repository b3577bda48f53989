use Rattle.std.proofs.Common.{◌<◌, ℕ}
use Rattle.match_board.specs.Borders.{rule_of}
use Rattle.match_board.specs.Clues.{clue_of}
use Rattle.match_puzzle.specs.Tables.{IsNextNumber}
use Rattle.match_puzzle.proofs.ClueFaultLemmas.{AgreesAt}
use Rattle.match_puzzle.proofs.clue_faults.defies_border.Given as goal

abbrev pub invariant-loop-side : goal.invariant-loop-side
invariant-loop-side l = record {
  number : IsNextNumber l.board ((clue_of l.clue).cell, l.side) l.count;
  agrees : (k : ℕ) → k < l.side → AgreesAt l.board (rule_of l.border) (clue_of l.clue) k;
}
