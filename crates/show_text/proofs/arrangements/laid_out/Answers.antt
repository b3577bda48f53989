use Rattle.std.proofs.Common.{◌≡◌, ◌<◌, ◌+◌, length, arith, subst, sym, refl, ap, ◌∙◌}
use Rattle.match_board.specs.Board.{cell_count}
use Rattle.match_puzzle.specs.Arrangement.{Stands}
use Rattle.match_puzzle.specs.Prefix.{IsUnused, Layout}
use Rattle.match_puzzle.specs.Puzzle.{IsLegal}
use Rattle.match_puzzle.specs.declared.placements.Placement.{Placement}
use Rattle.show_text.proofs.ArrangementLemmas.{AreLaid, all_laid, free_at, none_laid, one_more, read_stands, unused_at}
use Rattle.show_text.proofs.arrangements.laid_out.Goals as goal

pub loop-cell-init : goal.loop-cell-init
loop-cell-init c =
    let empty = c.in_ok-partial.ensures.empty in
    (ap (λ (q : Layout). q.puzzle) empty, subst (λ (q : Layout). AreLaid c.args.arrangement.now 0 q.placed) (sym empty) (none_laid c.args.arrangement.now _ c.requires.cells))

pub place-requires-clause-legal : goal.place-requires-clause-legal
place-requires-clause-legal c =
    let cells = c.cells-cell-end.ensures.count ∙ ap cell_count c.board.ensures.value in
    let lt = c.loop-cell-test.true in
    let long = c.requires.cells in
    let here = read_stands c.args.arrangement.now c.loop-cell.cell c.from.result _ c.from.ensures (omega (arith, lt, cells, long)) in
    rw c.loop-cell.invariant.0 (c.requires.legal c.loop-cell.cell _ here)

pub place-requires-clause-free : goal.place-requires-clause-free
place-requires-clause-free c =
    let cells = c.cells-cell-end.ensures.count ∙ ap cell_count c.board.ensures.value in
    let lt = c.loop-cell-test.true in
    let long = c.requires.cells in
    free_at c.args.arrangement.now c.loop-cell.cell c.loop-cell.partial.placed c.loop-cell.invariant.1 (omega (arith, lt, cells, long))

pub place-requires-clause-unused : goal.place-requires-clause-unused
place-requires-clause-unused c =
    let cells = c.cells-cell-end.ensures.count ∙ ap cell_count c.board.ensures.value in
    let lt = c.loop-cell-test.true in
    let long = c.requires.cells in
    let within : c.loop-cell.cell < length c.args.arrangement.now = omega (arith, lt, cells, long) in
    unused_at c.args.arrangement.now c.loop-cell.cell c.loop-cell.partial.placed c.loop-cell.invariant.1 within _
    (read_stands c.args.arrangement.now c.loop-cell.cell c.from.result _ c.from.ensures within) c.requires.once

pub loop-cell-preserved : goal.loop-cell-preserved
loop-cell-preserved c =
    let cells = c.cells-cell-end.ensures.count ∙ ap cell_count c.board.ensures.value in
    let lt = c.loop-cell-test.true in
    let long = c.requires.cells in
    let within : c.loop-cell.cell < length c.args.arrangement.now = omega (arith, lt, cells, long) in
    let placed = c.place.ensures in
    let more = one_more c.args.arrangement.now c.loop-cell.cell c.loop-cell.partial.placed c.loop-cell.invariant.1 within _
    (read_stands c.args.arrangement.now c.loop-cell.cell c.from.result _ c.from.ensures within) in
    (ap (λ (q : Layout). q.puzzle) placed ∙ c.loop-cell.invariant.0, subst (λ (q : Layout). AreLaid c.args.arrangement.now (c.loop-cell.cell + 1) q.placed) (sym placed) more)

pub returns-clause-placed : goal.returns-clause-placed
returns-clause-placed c =
    let cells = c.cells-cell-end.ensures.count ∙ ap cell_count c.board.ensures.value in
    let past = c.loop-cell-test.false in
    let long = c.requires.cells in
    all_laid c.args.arrangement.now c.loop-cell.cell c.loop-cell.partial.placed c.loop-cell.invariant.1 (omega (arith, past, cells, long))
