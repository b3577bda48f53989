use Rattle.std.proofs.Common.{◌≡◌, ◌<◌, ◌+◌, ◌∙◌, arith, sym, subst}
use Rattle.match_board.specs.Board.{cell_count}
use Rattle.fit_counts.specs.FitRows.{AreRows, IsRow}
use Rattle.fit_counts.specs.Placing.{placed_by}
use Rattle.match_puzzle.specs.Puzzle.{IsPuzzle}
use Rattle.match_puzzle.specs.declared.items.Item.TheVariants.{Tile}
use Rattle.fit_counts.proofs.NextFittingLemmas.{puzzle_now, rows_now, small_turns, all_turns, cell_behind, none_at_cell, next_of_tile, last_of_tile}
use Rattle.fit_counts.proofs.fit_counts.FitCounts.next_of.Goals as goal
use Rattle.fit_counts.proofs.fit_counts.FitCounts.next_of.Goals.{After-len-cells, After-at}

puzzle : (c : After-len-cells) → IsPuzzle c.args.self.now.puzzle
puzzle c =
    let i = c.self.inside in
    puzzle_now i.partial.puzzle i.pairs.items i.partial.placed i.counts.rows i.counts.sizes.items i.saved.items c.self.invariant c.args.self.now c.self.view_is

rows : (c : After-len-cells) → AreRows c.args.self.now.puzzle (placed_by c.args.self.now) c.self.inside.counts.rows
rows c =
    let i = c.self.inside in
    rows_now i.partial.puzzle i.pairs.items i.partial.placed i.counts.rows i.counts.sizes.items i.saved.items c.self.invariant c.args.self.now c.self.view_is

-- there is a row for each cell
many : (c : After-len-cells) → c.len-cells.result ≡ cell_count c.args.self.now.puzzle.board
many c = let long = (rows c).long in c.len-cells.ensures ∙ long

-- the row of the cell
row_there : (c : After-at) → AreRows c.args.self.now.puzzle (placed_by c.args.self.now) c.self.inside.counts.rows → c.loop-cell.cell < cell_count c.args.self.now.puzzle.board → IsRow c.args.self.now.puzzle (placed_by c.args.self.now) c.loop-cell.cell c.at.result.now
row_there c are lt = subst (IsRow c.args.self.now.puzzle (placed_by c.args.self.now) c.loop-cell.cell) (sym c.at.ensures) (are.is c.loop-cell.cell lt)

pub place_behind-first-requires : goal.place_behind-first-requires
place_behind-first-requires c =
    small_turns c.args.self.now.puzzle (placed_by c.args.self.now) (Tile c.args.tile) (puzzle (goal.at.place_behind-first-requires c).After-len-cells) c.args.after c.requires.after

pub returns-then-fitting-ne0 : goal.returns-then-fitting-ne0
returns-then-fitting-ne0 c =
    let first = (goal.at.returns-then-fitting-ne0 c).After-len-cells in
    let v = c.args.self.now in
    let l = c.loop-cell in
    let all = many first in
    next_of_tile v.puzzle (placed_by v) (puzzle first) c.args.tile l.cell c.requires.item.1 c.at.result.now (row_there (goal.at.returns-then-fitting-ne0 c).After-at (rows first) (omega (arith, all, c.loop-cell-test.true)))
    c.group.result c.group.ensures.few c.group.ensures.group c.args.after l.turns l.invariant.turns l.invariant.none c.if-fitting-ne0.true

pub loop-cell-preserved : goal.loop-cell-preserved
loop-cell-preserved c =
    let first = (goal.at.loop-cell-preserved c).After-len-cells in
    let v = c.args.self.now in
    let l = c.loop-cell in
    let all = many first in
    record {
      turns = all_turns c.args.after (l.cell + 1) (cell_behind c.args.after c.place_behind-first.result.0 l.cell c.place_behind-first.ensures.cell l.auto.cell);
      none = none_at_cell v.puzzle (placed_by v) (puzzle first) c.args.tile l.cell c.requires.item.1 c.at.result.now (row_there (goal.at.loop-cell-preserved c).After-at (rows first) (omega (arith, all, c.loop-cell-test.true)))
          c.group.result c.group.ensures.few c.group.ensures.group c.args.after l.turns l.invariant.turns l.invariant.none c.if-fitting-ne0.false;
    }

pub returns : goal.returns
returns c =
    let first = (goal.at.returns c).After-len-cells in
    let v = c.args.self.now in
    let all = many first in
    last_of_tile v.puzzle v.pairs c.args.tile c.args.after c.loop-cell.cell c.loop-cell.invariant.none (omega (arith, all, c.loop-cell-test.false))
