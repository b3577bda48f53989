use Rattle.std.proofs.Common.{ap, arith, refl}
use Rattle.match_board.specs.Board.{cell_count, side_count}
use Rattle.puzzle_symmetry.proofs.Carrying.{met_cells, met_sides}
use Rattle.puzzle_maker.proofs.trials.shows_none_inside.Goals as goal

pub returns-in-None : goal.returns-in-None
returns-in-None c = λ _ cell side other met x meets stands.
    c.in-None.ensures cell side
    (omega (arith, (met_cells meets).0, ap cell_count c.board.ensures.value))
    (omega (arith, (met_sides meets).0, ap side_count c.board.ensures.value))
    refl other met x meets stands
