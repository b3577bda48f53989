use Rattle.std.proofs.Common.{sym, ◌∙◌}
use Rattle.match_text.proofs.ShapeLemmas.{shape_written}
use Rattle.match_text.proofs.puzzle_spellings.put_board.Goals as goal

pub returns-in_ok-put_mask-in-Shape : goal.returns-in_ok-put_mask-in-Shape
returns-in_ok-put_mask-in-Shape c =
    shape_written c.in-Shape.width c.in-Shape.height c.in-Shape.mask c.args.board.now c.args.text.now.items c.put_shape.new.text.items c.put_mask.new.text.items (sym c.figure.ensures ∙ c.in-Shape.is) c.in_ok-put_shape-in-Shape.ensures c.in_ok-put_mask-in-Shape.ensures
