use Rattle.std.proofs.Common.{◌≡◌, arith, ap, ◌∙◌}
use Rattle.match_board.specs.Board.{cell_count}
use Rattle.match_puzzle.specs.Puzzle.{Task}
use Rattle.fit_counts.proofs.PlacingLemmas.{cell_below, cell_enough, cell_sizes, cell_covered}
use Rattle.fit_counts.proofs.placing.Counts.take_out_cell.Goals as goal
use Rattle.fit_counts.proofs.placing.Counts.take_out_cell.Goals.{After-remove_group}

cells_is : (c : After-remove_group) → c.from-cells.result ≡ cell_count c.args.partial.now.puzzle.board
cells_is c = c.from-cells.ensures ∙ c.cells.ensures.count ∙ ap cell_count (c.board.ensures.value ∙ ap (λ (p : Task). p.board) c.puzzle.ensures.same)

pub lower_tiles-requires : goal.lower_tiles-requires
lower_tiles-requires c =
    let there = (goal.at.lower_tiles-requires c).After-remove_group in
    record {
      below = cell_below c.args.partial.now.puzzle c.args.partial.now.placed c.args.pair c.requires.fits c.puzzle.ensures.puzzle c.puzzle.ensures.prefix c.args.self.now.rows c.requires.counts.rows c.at.result.now c.at.ensures
          c.free.result.now c.put_both.new.self c.remove_group.new.self c.free.ensures c.put_both.ensures c.remove_group.ensures c.from-cells.result (cells_is there) c.args.self.now.sizes.items c.requires.counts.sizes;
      enough = cell_enough c.args.partial.now.puzzle c.args.partial.now.placed c.args.pair c.requires.fits c.puzzle.ensures.puzzle c.puzzle.ensures.prefix c.args.self.now.rows c.requires.counts.rows c.at.result.now c.at.ensures
          c.free.result.now c.put_both.new.self c.remove_group.new.self c.free.ensures c.put_both.ensures c.remove_group.ensures c.from-cells.result (cells_is there) c.args.self.now.sizes.items c.requires.counts.sizes;
    }

pub returns-clause-sizes : goal.returns-clause-sizes
returns-clause-sizes c =
    let cells = cells_is (goal.at.returns-clause-sizes c).After-remove_group in
    record {
      open_items = cell_sizes c.args.partial.now.puzzle c.args.partial.now.placed c.args.pair c.requires.fits c.puzzle.ensures.puzzle c.puzzle.ensures.prefix c.args.self.now.rows c.requires.counts.rows c.at.result.now c.at.ensures
          c.free.result.now c.put_both.new.self c.remove_group.new.self c.free.ensures c.put_both.ensures c.remove_group.ensures c.from-cells.result cells c.args.self.now.sizes.items c.requires.counts.sizes
          c.lower_tiles.new.sizes.items c.lower_tiles.ensures.long c.lower_tiles.ensures.tiles c.lower_tiles.ensures.cells;
      settled = cell_covered c.args.partial.now.puzzle c.args.partial.now.placed c.args.pair c.requires.fits c.puzzle.ensures.puzzle c.puzzle.ensures.prefix c.args.self.now.rows c.requires.counts.rows c.at.result.now c.at.ensures
          c.free.result.now c.put_both.new.self c.remove_group.new.self c.free.ensures c.put_both.ensures c.remove_group.ensures c.from-cells.result cells c.args.self.now.sizes.items c.requires.counts.sizes
          c.lower_tiles.new.sizes.items c.lower_tiles.ensures.long c.lower_tiles.ensures.tiles c.lower_tiles.ensures.cells;
    }
