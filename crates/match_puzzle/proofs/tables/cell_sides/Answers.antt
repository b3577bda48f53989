use Rattle.std.proofs.Common.{◌≡◌, ◌∙◌, arith, subst, sym, ⊎_elim}
use Rattle.match_board.specs.Board.{side_count}
use Rattle.match_puzzle.specs.Puzzle.{task_by}
use Rattle.match_puzzle.specs.Tables.{IsSide, IsNextNumber}
use Rattle.match_puzzle.proofs.Prefixes.{slice_get-set_other}
use Rattle.match_puzzle.proofs.TableLemmas.{written_is, number_after_cell}
use Rattle.match_puzzle.proofs.tables.cell_sides.Goals as goal

pub loop-side-preserved : goal.loop-side-preserved
loop-side-preserved c = record {
  sides = λ side x lt get version tiles.
      let p = task_by c.args.board.now c.args.rules.now version tiles in
      ⊎_elim
      (λ w. subst (λ k. IsSide p c.args.cell k x) (sym w.0) (subst (λ y. IsSide p c.args.cell c.loop-side.side y) (sym w.1) (c.side_at.ensures.side version tiles)))
      (λ w. c.loop-side.invariant.sides side x (omega (arith, w.0)) w.1 version tiles)
      (written_is c.loop-side.sides c.loop-side.side side c.side_at.result x (rw c.from.ensures at get));
  outside = λ side le lt. let after = c.loop-side.invariant.outside side (omega (arith, le)) lt in
      rw c.from.ensures (slice_get-set_other c.loop-side.sides c.loop-side.side side c.side_at.result (λ e. omega (arith, e, le)) ∙ after);
  number = c.side_at.ensures.number;
}

pub returns-clause-outside : goal.returns-clause-outside
returns-clause-outside c = λ side le lt. c.loop-side.invariant.outside side (omega (arith, le, c.loop-side.auto.side-end, c.sides-side-end.ensures.count)) lt

pub returns-clause-number : goal.returns-clause-number
returns-clause-number c =
    let at : c.loop-side.side ≡ side_count c.args.board.now = omega (arith, c.loop-side-test.false, c.sides-side-end.ensures.count) in
    number_after_cell c.args.board.now c.args.cell c.loop-side.number (omega (arith, c.sides-side-end.ensures.count, c.sides-side-end.ensures.few)) (subst (λ k. IsNextNumber c.args.board.now (c.args.cell, k) c.loop-side.number) at c.loop-side.invariant.number)
