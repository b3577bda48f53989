use Rattle.std.proofs.Common.{◌<◌, length, get_or, arith, ap}
use Rattle.std.proofs.lemmas.Option.{slice_get_within}
use Rattle.match_board.specs.Board.{cell_count}
use Rattle.match_puzzle.specs.ArrangementFaults.{HasNoTileAt}
use Rattle.match_limits.proofs.FirstLemmas.{least_at}
use Rattle.match_puzzle.proofs.ArrangementLemmas.{read_stands, one_more_stands, first_tile}
use Rattle.match_puzzle.proofs.puzzles.Puzzle.tile_out_of_range.Goals as goal

pub bounds-placements-from : goal.bounds-placements-from
bounds-placements-from c =
    let before = c.loop-cell-test.true in
    let at = c.from.ensures in
    omega (arith, at, before, c.requires, c.cells-cell-end.ensures.count, ap cell_count c.board.ensures.value)

pub returns-then-placements-from : goal.returns-then-placements-from
returns-then-placements-from c =
    let a = c.args.placements.now in
    let i = c.loop-cell.cell in
    let many = c.tile_count-tiles.ensures.count in
    let before = c.loop-cell-test.true in
    let none = rw c.from.ensures at c.if-placements-from.true in
    rw c.from-then-placements-from.ensures (least_at (HasNoTileAt c.args.self.now a) i
    (get_or a i first_tile, read_stands a i first_tile (omega (arith, before, c.requires, c.cells-cell-end.ensures.count, ap cell_count c.board.ensures.value)), omega (arith, none, many))
    (λ k lt fault. let has = c.loop-cell.invariant k lt fault.0 fault.1 in let not = fault.2 in omega (arith, has, not)))

pub loop-cell-preserved : goal.loop-cell-preserved
loop-cell-preserved c =
    let many = c.tile_count-tiles.ensures.count in
    let has = rw c.from.ensures at c.if-placements-from.false in
    one_more_stands (λ x. x.tile < length c.args.self.now.words) c.args.placements.now c.loop-cell.cell first_tile c.loop-cell.invariant (omega (arith, has, many))

pub returns : goal.returns
returns c = λ cell x stands.
    let within = slice_get_within c.args.placements.now cell x stands in
    let end = c.loop-cell-test.false in
    c.loop-cell.invariant cell (omega (arith, within, end, c.requires, c.cells-cell-end.ensures.count, ap cell_count c.board.ensures.value)) x stands
