use Rattle.std.proofs.Common.{◌<◌, MatchOption, arith, sym, subst}
use Rattle.match_board.specs.Board.{cell_count}
use Rattle.fit_counts.specs.FitRows.{AreRows, IsRow}
use Rattle.match_puzzle.specs.Fitting.{IsLastFitting, IsNextFitting}
use Rattle.match_puzzle.specs.PlacementSets.{AreFreeNumbers}
use Rattle.fit_counts.specs.Placing.{placed_by}
use Rattle.match_puzzle.specs.Puzzle.{IsPuzzle}
use Rattle.match_puzzle.specs.declared.items.Item.TheVariants.{Cell}
use Rattle.fit_counts.proofs.NextFittingLemmas.{puzzle_now, rows_now, free_now, cells_of_pairs, small_placements, last_at_cell, next_at_cell}
use Rattle.fit_counts.proofs.fit_counts.FitCounts.next_at.Goals as goal
use Rattle.fit_counts.proofs.fit_counts.FitCounts.next_at.Goals.{After-free}

puzzle : (c : After-free) → IsPuzzle c.args.self.now.puzzle
puzzle c =
    let i = c.self.inside in
    puzzle_now i.partial.puzzle i.pairs.items i.partial.placed i.counts.rows i.counts.sizes.items i.saved.items c.self.invariant c.args.self.now c.self.view_is

rows : (c : After-free) → AreRows c.args.self.now.puzzle (placed_by c.args.self.now) c.self.inside.counts.rows
rows c =
    let i = c.self.inside in
    rows_now i.partial.puzzle i.pairs.items i.partial.placed i.counts.rows i.counts.sizes.items i.saved.items c.self.invariant c.args.self.now c.self.view_is

cell_in : (c : After-free) → c.args.cell < cell_count c.args.self.now.puzzle.board
cell_in c = cells_of_pairs c.args.self.now.puzzle c.args.self.now.pairs c.args.cell c.requires.item

-- the row of the cell
row_there : (c : After-free) → AreRows c.args.self.now.puzzle (placed_by c.args.self.now) c.self.inside.counts.rows → c.args.cell < cell_count c.args.self.now.puzzle.board → IsRow c.args.self.now.puzzle (placed_by c.args.self.now) c.args.cell c.at-row.result.now
row_there c are lt = subst (IsRow c.args.self.now.puzzle (placed_by c.args.self.now) c.args.cell) (sym c.at-row.ensures) (are.is c.args.cell lt)

free : (c : After-free) → AreFreeNumbers c.args.self.now.puzzle (placed_by c.args.self.now) c.free.result.now
free c =
    let i = c.self.inside in
    free_now i.partial.puzzle i.pairs.items i.partial.placed i.counts.rows i.counts.sizes.items i.saved.items c.self.invariant c.args.self.now c.self.view_is c.free.result.now c.free.ensures

pub at-row-requires : goal.at-row-requires
at-row-requires c =
    let i = c.self.inside in
    let v = c.args.self.now in
    let lt = cells_of_pairs v.puzzle v.pairs c.args.cell c.requires.item in
    let are = rows_now i.partial.puzzle i.pairs.items i.partial.placed i.counts.rows i.counts.sizes.items i.saved.items c.self.invariant v c.self.view_is in
    let long = are.long in
    omega (arith, lt, long)

pub number_behind-requires : goal.number_behind-requires
number_behind-requires c =
    small_placements c.args.self.now.puzzle (placed_by c.args.self.now) (Cell c.args.cell) (puzzle (goal.at.number_behind-requires c).After-free) c.args.after c.requires.after

pub returns-in_err-number : goal.returns-in_err-number
returns-in_err-number c =
    let first = (goal.at.returns-in_err-number c).After-free in
    let there = (goal.at.returns-in_err-number c).After-free in
    let v = c.args.self.now in
    let item = Cell c.args.cell in
    subst (λ r. MatchOption r (IsLastFitting v.puzzle (placed_by v) item c.args.after) (IsNextFitting v.puzzle (placed_by v) item c.args.after)) (sym c.from_residual.ensures)
    (last_at_cell v.puzzle (placed_by v) c.args.cell c.at-row.result.now (row_there there (rows first) (cell_in first)) c.free.result.now (free there) (puzzle first) c.args.after c.requires.after c.number_behind.result c.number_behind.ensures.number c.in_err-number.ensures.least)

pub returns : goal.returns
returns c =
    let first = (goal.at.returns c).After-free in
    let there = (goal.at.returns c).After-free in
    let v = c.args.self.now in
    next_at_cell v.puzzle (placed_by v) c.args.cell c.at-row.result.now (row_there there (rows first) (cell_in first)) c.free.result.now (free there) (puzzle first) c.args.after c.requires.after c.number_behind.result c.number_behind.ensures.number c.in_ok-number.number c.in_ok-number.ensures.least
