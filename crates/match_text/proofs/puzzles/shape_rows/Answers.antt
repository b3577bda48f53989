use Rattle.std.proofs.Common.{arith}
use Rattle.std.proofs.lemmas.Result.{err_from_is_err_and}
use Rattle.match_text.proofs.ShapeLemmas.{one_row, row_fault, all_rows, rows_long}
use Rattle.match_text.proofs.puzzles.shape_rows.Goals as goal

pub returns-in_err-row_line-clause-reads : goal.returns-in_err-row_line-clause-reads
returns-in_err-row_line-clause-reads c =
    let p = err_from_is_err_and c.from_residual.result c.from_residual.ensures.1 in
    rw (p.1, p.2) (row_fault c.args.width c.args.height c.loop.counter c.args.scan.now c.loop.scan c.loop.marks.items c.in_err-row_line.field-0.0 (omega arith) c.loop.invariant c.in_err-row_line.ensures)

pub loop-preserved : goal.loop-preserved
loop-preserved c =
    one_row c.args.width c.args.height c.loop.counter c.args.scan.now c.loop.scan c.row_line.new.scan c.loop.marks.items c.row_line.new.marks.items c.in_ok-row_line.field-0 (omega arith) c.loop.invariant c.in_ok-row_line.ensures

pub returns-clause-reads : goal.returns-clause-reads
returns-clause-reads c = all_rows c.args.width c.args.height c.loop.counter c.args.scan.now c.loop.scan c.loop.marks.items (omega arith) c.loop.invariant

pub returns-clause-marks : goal.returns-clause-marks
returns-clause-marks c = rows_long c.args.width c.args.height c.loop.counter c.args.scan.now c.loop.scan c.loop.marks.items (omega arith) c.loop.invariant
