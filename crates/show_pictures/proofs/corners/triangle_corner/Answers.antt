use Rattle.match_board.proofs.Places.{StandsAt-in_range}
use Rattle.show_pictures.proofs.corners.triangle_corner.Goals as goal

pub meets-requires-2-clause-cell : goal.meets-requires-2-clause-cell
meets-requires-2-clause-cell c = StandsAt-in_range c.in-Some.ensures.found.there
