use Rattle.match_board.specs.FirstSides.{ArePassedBefore}
use Rattle.match_board.proofs.first_sides.first_side.Given as goal

abbrev pub invariant-loop-cell : goal.invariant-loop-cell
invariant-loop-cell g l = ArePassedBefore l.board (goal.F-post g l.test) l.cell
