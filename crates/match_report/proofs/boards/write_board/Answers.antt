use Rattle.std.proofs.Common.{◌≡◌, ◌<◌, ◌++◌, Some, length, get_or, slice_get, sym, subst, ap, ◌∙◌, arith}
use Rattle.std.proofs.lemmas.Option.{get_or_from_slice_get, slice_get-get_or}
use Rattle.match_board.specs.Board.{cell_count}
use Rattle.text_words.specs.Spelling.{line_text}
use Rattle.match_report.specs.BoardText.{cell_words, board_text}
use Rattle.match_report.proofs.NumberedLemmas.{numbered_lines, numbered_all, numbered_more, numbered_none}
use Rattle.match_report.proofs.boards.write_board.Goals as goal

pub loop-cell-init : goal.loop-cell-init
loop-cell-init c = c.new-text.ensures.items ∙ sym (numbered_none (cell_words c.args.puzzle.now) c.args.arrangement.now)

pub put_cell-requires : goal.put_cell-requires
put_cell-requires c =
    let arrangement = c.args.arrangement.now in
    let long : length arrangement ≡ c.cells-cell-end.result = c.requires.cells ∙ ap cell_count (sym c.board.ensures.value) ∙ sym c.cells-cell-end.ensures.count in
    let lt : c.from.result < length arrangement = omega (arith, c.from.ensures, long, c.loop-cell-test.true) in
    (c.requires.legal c.from.result _ (slice_get-get_or arrangement c.from.result (record { tile = 0; turn = 0 }) lt)).tile

pub loop-cell-preserved : goal.loop-cell-preserved
loop-cell-preserved c =
    let arrangement = c.args.arrangement.now in
    let words = cell_words c.args.puzzle.now in
    let cell = c.loop-cell.cell in
    let placed = get_or arrangement c.from.result (record { tile = 0; turn = 0 }) in
    let long : length arrangement ≡ c.cells-cell-end.result = c.requires.cells ∙ ap cell_count (sym c.board.ensures.value) ∙ sym c.cells-cell-end.ensures.count in
    let within : cell < length arrangement = omega (arith, long, c.loop-cell-test.true) in
    let stands = slice_get-get_or arrangement c.from.result (record { tile = 0; turn = 0 }) (omega (arith, c.from.ensures, within)) in
    let here : slice_get arrangement cell ≡ Some placed = subst (λ n. slice_get arrangement n ≡ Some placed) c.from.ensures stands in
    c.in_ok-put_cell.ensures ∙ ap (λ text. text ++ line_text (words (cell, placed))) c.loop-cell.invariant
    ∙ sym (numbered_more words arrangement cell placed within (get_or_from_slice_get arrangement cell placed placed here))

pub returns : goal.returns
unfolding board_text
returns c =
    let words = cell_words c.args.puzzle.now in
    let arrangement = c.args.arrangement.now in
    let long : length arrangement ≡ c.cells-cell-end.result = c.requires.cells ∙ ap cell_count (sym c.board.ensures.value) ∙ sym c.cells-cell-end.ensures.count in
    let all : c.loop-cell.cell ≡ length arrangement = omega (arith, long, c.loop-cell-test.false, c.loop-cell.auto.cell-end) in
    c.loop-cell.invariant ∙ ap (numbered_lines words arrangement) all ∙ numbered_all words arrangement
