use Rattle.std.proofs.Common.{◌≡◌, length, true≢false, get_or, arith, refl, ap, sym}
use Rattle.std.proofs.lemmas.Option.{slice_get_within}
use Rattle.match_board.specs.Board.{cell_count}
use Rattle.match_puzzle.specs.Puzzle.{IsLegal}
use Rattle.match_puzzle.specs.ArrangementFaults.{HasNoTurnAt}
use Rattle.match_limits.proofs.FirstLemmas.{least_at}
use Rattle.match_puzzle.proofs.ArrangementLemmas.{read_stands, one_more_stands, first_tile}
use Rattle.match_puzzle.proofs.puzzles.Puzzle.turn_out_of_range.Goals as goal
use Rattle.match_puzzle.proofs.puzzles.Puzzle.turn_out_of_range.Goals.{After-cells-cell-end}

cells : (c : After-cells-cell-end) → c.cells-cell-end.result ≡ length c.args.placements.now
cells c =
    let count = c.cells-cell-end.ensures.count in
    let same = ap cell_count c.board.ensures.value in
    let long = c.requires.long in
    omega (arith, count, same, long)

pub bounds-placements-from : goal.bounds-placements-from
bounds-placements-from c =
    let long = cells (goal.at.bounds-placements-from c).After-cells-cell-end in
    let before = c.loop-cell-test.true in
    let at = c.from.ensures in
    omega (arith, at, before, long)

pub returns-then-not-legal : goal.returns-then-not-legal
returns-then-not-legal c =
    let a = c.args.placements.now in
    let i = c.loop-cell.cell in
    let long = cells (goal.at.returns-then-not-legal c).After-cells-cell-end in
    let before = c.loop-cell-test.true in
    let here = read_stands a i first_tile (omega (arith, before, long)) in
    let not = rw c.from.ensures at c.if-not-legal.ensures in
    rw c.from-then-not-legal.ensures (least_at (HasNoTurnAt c.args.self.now a) i
    (get_or a i first_tile, here, λ turn. true≢false (sym (not.1 (record { tile = c.requires.tiles i _ here; turn = turn }))))
    (λ k lt fault. fault.2 (c.loop-cell.invariant k lt fault.0 fault.1).turn))

pub loop-cell-preserved : goal.loop-cell-preserved
loop-cell-preserved c =
    let legal = rw c.from.ensures at c.if-not-legal.ensures in
    one_more_stands (IsLegal c.args.self.now) c.args.placements.now c.loop-cell.cell first_tile c.loop-cell.invariant (legal.0 refl)

pub returns : goal.returns
returns c = λ cell x stands.
    let long = cells (goal.at.returns c).After-cells-cell-end in
    let within = slice_get_within c.args.placements.now cell x stands in
    let end = c.loop-cell-test.false in
    c.loop-cell.invariant cell (omega (arith, within, long, end)) x stands
