use Rattle.std.proofs.Common.{◌<◌, ◌∙◌, ℕ, true, false, length, length-set, replicate, below_more, arith, ap}
use Rattle.match_limits.specs.declared.TheConstants.{MOST_TILES}
use Rattle.std.proofs.lemmas.List.{get_or-replicate, length-replicate}
use Rattle.std.proofs.lemmas.Option.{slice_get_within}
use Rattle.match_board.specs.Board.{cell_count}
use Rattle.match_puzzle.specs.Puzzle.{Task, IsPuzzle}
use Rattle.match_puzzle.specs.ArrangementFaults.{RepeatsTileAt}
use Rattle.match_limits.proofs.FirstLemmas.{least_at}
use Rattle.match_puzzle.proofs.ArrangementLemmas.{first_tile, read_stands, once_by_order, seen_none, seen_more, seen_repeats, unseen_once}
use Rattle.match_puzzle.proofs.puzzles.Puzzle.repeated_tile.Goals as goal

-- a tile of a puzzle is below the most
small_tile : (p : Task) (tile : ℕ) → IsPuzzle p → tile < length p.words → tile < MOST_TILES
small_tile p tile is lt = let few = is.tiles.few in omega (arith, lt, few)

pub loop-cell-init : goal.loop-cell-init
loop-cell-init c = record {
  long = length-replicate MOST_TILES false;
  seen = seen_none c.args.placements.now (replicate MOST_TILES false) (λ tile lt. get_or-replicate MOST_TILES tile false false lt);
  once = λ k lt. absurd (omega arith);
}

pub bounds-seen-tile : goal.bounds-seen-tile
bounds-seen-tile c = rw (c.from-tile.ensures, c.from.ensures) (small_tile c.args.self.now _ c.board.ensures.puzzle (c.requires.tiles c.loop-cell.cell _ (read_stands c.args.placements.now c.loop-cell.cell first_tile (omega (arith, c.requires.long, c.cells-cell-end.ensures.count, ap cell_count c.board.ensures.value)))))

pub returns-then-seen-tile : goal.returns-then-seen-tile
returns-then-seen-tile c =
    let a = c.args.placements.now in
    let i = c.loop-cell.cell in
    let here = read_stands a i first_tile (omega (arith, c.requires.long, c.cells-cell-end.ensures.count, ap cell_count c.board.ensures.value)) in
    let small = small_tile c.args.self.now _ c.board.ensures.puzzle (c.requires.tiles i _ here) in
    rw c.from-then-seen-tile.ensures (least_at (RepeatsTileAt c.args.self.now a) i (seen_repeats a c.args.self.now i _ c.loop-cell.seen here small c.loop-cell.invariant.seen (rw (c.from-tile.ensures, c.from.ensures) at c.if-seen-tile.true)) c.loop-cell.invariant.once)

pub bounds-seen-tile-in-loop-cell : goal.bounds-seen-tile-in-loop-cell
bounds-seen-tile-in-loop-cell c = rw (c.from-tile.ensures, c.from.ensures) (small_tile c.args.self.now _ c.board.ensures.puzzle (c.requires.tiles c.loop-cell.cell _ (read_stands c.args.placements.now c.loop-cell.cell first_tile (omega (arith, c.requires.long, c.cells-cell-end.ensures.count, ap cell_count c.board.ensures.value)))))

pub loop-cell-preserved : goal.loop-cell-preserved
loop-cell-preserved c =
    let a = c.args.placements.now in
    let i = c.loop-cell.cell in
    let here = read_stands a i first_tile (omega (arith, c.requires.long, c.cells-cell-end.ensures.count, ap cell_count c.board.ensures.value)) in
    let small = small_tile c.args.self.now _ c.board.ensures.puzzle (c.requires.tiles i _ here) in
    record {
      long = length-set c.loop-cell.seen _ true ∙ c.loop-cell.invariant.long;
      seen = rw (c.from-tile.ensures, c.from.ensures) (seen_more a i _ c.loop-cell.seen here c.loop-cell.invariant.long c.loop-cell.invariant.seen);
      once = below_more (λ k. RepeatsTileAt c.args.self.now a k → ⊥) i c.loop-cell.invariant.once (unseen_once a c.args.self.now i _ c.loop-cell.seen here small c.loop-cell.invariant.seen (rw (c.from-tile.ensures, c.from.ensures) at c.if-seen-tile.false));
    }

pub returns : goal.returns
returns c = once_by_order c.args.self.now c.args.placements.now
    (λ k o. c.loop-cell.invariant.once k (omega (arith, slice_get_within c.args.placements.now k o.0 o.3, c.requires.long, c.loop-cell-test.false, c.cells-cell-end.ensures.count, ap cell_count c.board.ensures.value)) o)
