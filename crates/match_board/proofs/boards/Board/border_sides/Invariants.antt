use Rattle.std.proofs.Common.{◌≡◌, ◌+◌, ◌≤◌, ℕ, List, length}
use Rattle.match_board.specs.Board.{IsBorderBefore}
use Rattle.match_board.proofs.boards.Board.border_sides.Given as goal

abbrev pub invariant-loop-side : goal.invariant-loop-side
invariant-loop-side l = record {
  few : l.count ≤ l.side;
  counts : (before : List (ℕ × ℕ)) → IsBorderBefore l.self (l.cell, 0) before → (pairs : List (ℕ × ℕ)) × IsBorderBefore l.self (l.cell, l.side) pairs × (length pairs ≡ length before + l.count);
}
