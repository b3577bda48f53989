use Rattle.std.proofs.Common.{◌≡◌, ◌∙◌, [], length, length-set, slice_index_or, below_more, arith, sym, ap, subst}
use Rattle.std.proofs.lemmas.List.{get_or-set_same, get_or-set_other, length-replicate}
use Rattle.match_board.specs.Board.{cell_count}
use Rattle.fit_counts.specs.FitRows.{IsRow}
use Rattle.fit_counts.proofs.fit_rows.FitRows.new.Goals as goal

pub loop-cell-preserved : goal.loop-cell-preserved
loop-cell-preserved c =
    let cell = c.loop-cell.cell in
    let rows = c.loop-cell.rows in
    let made = c.put.ensures in
    let row = made.0 in
    let written = made.2 in
    let long = c.loop-cell.invariant.long in
    let w = c.args.partial.now in
    record {
      long = ap length written ∙ length-set rows cell row ∙ long;
      is = below_more (λ k. IsRow w.puzzle w.placed k (slice_index_or c.put.new.self k [])) cell
          (λ k lt. subst (IsRow w.puzzle w.placed k) (sym (ap (λ xs. slice_index_or xs k []) written ∙ get_or-set_other rows cell k row [] (λ e. omega (arith, lt, e)))) (c.loop-cell.invariant.is k lt))
          (subst (IsRow w.puzzle w.placed cell) (sym (ap (λ xs. slice_index_or xs cell []) written ∙ get_or-set_same rows cell row [] (let in_range = c.loop-cell-test.true in let auto = c.loop-cell.auto.cell-end in omega (arith, in_range, long, cells_are))))
          made.1);
    }
  where
    cells_are : c.cells-cells.result ≡ cell_count c.args.partial.now.puzzle.board
    cells_are = c.cells-cells.ensures.count ∙ ap cell_count c.board.ensures.value ∙ ap (λ t. cell_count t.board) c.puzzle.ensures.same

pub loop-cell-init : goal.loop-cell-init
loop-cell-init c =
    let made = ap length c.in_ok-empty_rows.ensures ∙ length-replicate c.cells-cells.result [] in
    let cells = c.cells-cells.ensures.count ∙ ap cell_count c.board.ensures.value ∙ ap (λ t. cell_count t.board) c.puzzle.ensures.same in
    record { long = made ∙ cells; is = λ k lt. absurd (omega (arith, lt)) }

pub returns : goal.returns
returns c =
    let past = c.loop-cell-test.false in
    let cells : c.cells-cells.result ≡ cell_count c.args.partial.now.puzzle.board = c.cells-cells.ensures.count ∙ ap cell_count c.board.ensures.value ∙ ap (λ t. cell_count t.board) c.puzzle.ensures.same in
    record { long = c.loop-cell.invariant.long; is = λ k lt. c.loop-cell.invariant.is k (omega (arith, lt, past, cells)) }
