use Rattle.match_board.proofs.MaskLemmas.{one_mask}
use Rattle.match_board.proofs.laws.shapes_are_known_by_their_cells.Goals as goal

pub returns : goal.returns
returns c = λ width height mask other is is' same. one_mask width height mask other is.marks is'.marks same
