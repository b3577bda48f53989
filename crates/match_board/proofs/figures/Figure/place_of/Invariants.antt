use Rattle.std.proofs.Common.{◌≡◌, ◌+◌}
use Rattle.match_board.specs.Board.{cells_above}
use Rattle.match_board.proofs.figures.Figure.place_of.Given as goal

abbrev pub invariant-loop-row : goal.invariant-loop-row
invariant-loop-row l = l.cell ≡ cells_above l.self l.row + l.left
