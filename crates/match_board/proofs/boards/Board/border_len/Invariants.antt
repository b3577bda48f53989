use Rattle.std.proofs.Common.{◌≡◌, ◌*◌, ◌≤◌, ℕ, List, length}
use Rattle.match_board.specs.Board.{IsBorderBefore}
use Rattle.match_board.proofs.boards.Board.border_len.Given as goal

abbrev pub invariant-loop-cell : goal.invariant-loop-cell
invariant-loop-cell l = record {
  few : l.count ≤ 4 * l.cell;
  counts : (pairs : List (ℕ × ℕ)) × IsBorderBefore l.self (l.cell, 0) pairs × (length pairs ≡ l.count);
}
