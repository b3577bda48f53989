use Rattle.std.proofs.Common.{◌<◌, ℕ, false, arith, below_more}
use Rattle.match_board.specs.Board.{side_count}
use Rattle.match_board.proofs.first_sides.first_side.Goals as goal

pub loop-cell-init : goal.loop-cell-init
loop-cell-init g c before side lt = absurd (omega (arith, lt))

pub returns-in-Some : goal.returns-in-Some
returns-in-Some g c = record {
  cell_in = omega (arith, c.loop-cell-test.true, c.cells-cell-end.ensures.count);
  side_in = c.in-Some.ensures.0;
  says_yes = c.in-Some.ensures.1;
  cells = c.loop-cell.invariant;
  sides = c.in-Some.ensures.2;
}

pub loop-cell-preserved : goal.loop-cell-preserved
loop-cell-preserved g c before side lt side_in =
    below_more (λ k. (side : ℕ) → side < side_count c.args.board.now → goal.F-post g c.args.test k side false) c.loop-cell.cell
    (λ k lt side. c.loop-cell.invariant k side lt) c.in_default.ensures before lt side side_in

pub returns : goal.returns
returns g c before side lt =
    let past = c.loop-cell-test.false in
    let count = c.cells-cell-end.ensures.count in
    c.loop-cell.invariant before side (omega (arith, lt, past, count))
