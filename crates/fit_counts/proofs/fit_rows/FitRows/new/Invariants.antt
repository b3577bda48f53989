use Rattle.std.proofs.Common.{◌≡◌, ◌<◌, ℕ, [], length, slice_index_or}
use Rattle.match_board.specs.Board.{cell_count}
use Rattle.fit_counts.specs.FitRows.{IsRow}
use Rattle.fit_counts.proofs.fit_rows.FitRows.new.Given as goal

abbrev pub invariant-loop-cell : goal.invariant-loop-cell
invariant-loop-cell l = record {
  long : length l.rows ≡ cell_count l.partial.puzzle.board;
  is : (k : ℕ) → k < l.cell → IsRow l.partial.puzzle l.partial.placed k (slice_index_or l.rows k []);
}
