use Rattle.std.proofs.Common.{◌≡◌, arith, ap}
use Rattle.match_board.specs.Board.{row_count, row_length, cells_above, cells_left}
use Rattle.match_board.proofs.Places.{whole_row, left_of_later}
use Rattle.match_board.proofs.figures.Figure.number_of.Goals as goal

pub overflow_add-above : goal.overflow_add-above
overflow_add-above c =
    let s = c.args.self.now in
    let row = c.loop-higher.higher in
    omega (arith, whole_row s row (row_count s) (omega (arith, c.requires.there)), c.loop-higher.invariant, c.cells_left-above.ensures, ap (λ n. cells_left s row n) c.row_length.ensures, c.requires.board)

pub overflow_add-result : goal.overflow_add-result
overflow_add-result c =
    let s = c.args.self.now in
    let at : c.loop-higher.higher ≡ c.args.row = omega arith in
    let there = c.requires.there in
    omega (arith, whole_row s c.args.row (row_count s) there.0, left_of_later s c.args.row c.args.place (row_length s c.args.row) there.2 there.1, c.cells_left.ensures, c.requires.board, c.loop-higher.invariant, ap (λ r. cells_above s r) at)
