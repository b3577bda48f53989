use Rattle.std.proofs.Common.{◌≡◌}
use Rattle.match_report.specs.BoardText.{cell_words}
use Rattle.match_report.proofs.NumberedLemmas.{numbered_lines}
use Rattle.match_report.proofs.boards.write_board.Given as goal

abbrev pub invariant-loop-cell : goal.invariant-loop-cell
invariant-loop-cell l = l.text.items ≡ numbered_lines (cell_words l.puzzle) l.arrangement l.cell
