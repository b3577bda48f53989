use Rattle.match_board.proofs.boards.Board.meets.Goals as goal

pub returns-clause-only : goal.returns-clause-only
returns-clause-only c = rw (← c.self.view_is) c.meets.ensures.only
