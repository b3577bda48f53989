use Rattle.match_limits.proofs.OptionLemmas.{none_some}
use Rattle.match_board.proofs.boards.Board.is_border.Goals as goal

pub returns-in-None : goal.returns-in-None
returns-in-None c = record { cell_in = c.requires.cell; side_in = c.requires.side; meets_nothing = λ cell side meets. none_some (c.in-None.ensures.only cell side meets) }
