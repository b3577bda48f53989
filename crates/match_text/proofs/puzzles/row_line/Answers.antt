use Rattle.std.proofs.lemmas.Result.{err_from_is_err_and}
use Rattle.match_text.proofs.ShapeLemmas.{line_reads, line_ends_early, line_word_fails, line_row_fails, line_goes_on}
use Rattle.match_text.proofs.puzzles.row_line.Goals as goal

pub returns-in_err-next_line : goal.returns-in_err-next_line
returns-in_err-next_line c =
    let p = err_from_is_err_and c.from_residual.result c.from_residual.ensures.1 in
    rw (p.1, p.2) (line_ends_early c.args.width c.args.scan.now c.in_err-next_line.field-0.0 c.in_err-next_line.ensures.gives)

pub returns-in_err-word : goal.returns-in_err-word
returns-in_err-word c =
    let p = err_from_is_err_and c.from_residual-in_err-word.result c.from_residual-in_err-word.ensures.1 in
    rw (p.1, p.2) (line_word_fails c.args.width c.args.scan.now c.next_line.new.self tt c.in_err-word.field-0.0 c.in_ok-next_line.ensures.gives c.in_err-word.ensures.gives)

pub returns-in_err-row_marks : goal.returns-in_err-row_marks
returns-in_err-row_marks c =
    let p = err_from_is_err_and c.from_residual-in_err-row_marks.result c.from_residual-in_err-row_marks.ensures.1 in
    rw (p.1, p.2) (line_row_fails c.args.width c.args.scan.now c.next_line.new.self c.word.new.self tt tt c.in_err-row_marks.field-0.0 c.in_ok-next_line.ensures.gives c.in_ok-word.ensures.gives c.in_err-row_marks.ensures)

pub returns-in_err-end_of_line : goal.returns-in_err-end_of_line
returns-in_err-end_of_line c =
    let p = err_from_is_err_and c.from_residual-in_err-end_of_line.result c.from_residual-in_err-end_of_line.ensures.1 in
    let row = c.in_ok-row_marks.ensures in
    rw (p.1, p.2) (line_goes_on c.args.width c.args.scan.now c.next_line.new.self c.word.new.self c.row_marks.new.scan tt tt row.0 c.in_err-end_of_line.field-0.0 c.in_ok-next_line.ensures.gives c.in_ok-word.ensures.gives row.2 c.in_err-end_of_line.ensures)

pub returns : goal.returns
returns c =
    let row = c.in_ok-row_marks.ensures in
    (row.0, row.1, line_reads c.args.width c.args.scan.now c.next_line.new.self c.word.new.self c.row_marks.new.scan c.row_marks.new.scan tt tt tt row.0 c.in_ok-next_line.ensures.gives c.in_ok-word.ensures.gives row.2 c.in_ok-end_of_line.ensures)
