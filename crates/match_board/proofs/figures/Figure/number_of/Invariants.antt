use Rattle.std.proofs.Common.{◌≡◌}
use Rattle.match_board.specs.Board.{cells_above}
use Rattle.match_board.proofs.figures.Figure.number_of.Given as goal

abbrev pub invariant-loop-higher : goal.invariant-loop-higher
invariant-loop-higher l = l.above ≡ cells_above l.self l.higher
