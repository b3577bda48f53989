use Rattle.match_board.proofs.AlikeLemmas.{second_alike, second_is_board, alike_border_order}
use Rattle.match_board.proofs.laws.second_form_is_alike.Goals as goal

pub returns : goal.returns
returns c = record { board = second_is_board; alike = second_alike; border = λ s pairs. alike_border_order pairs (second_alike s) }
