use Rattle.std.proofs.Common.{◌≡◌, ◌<◌, ◌+◌, length, set, arith, ap, sym, ◌∙◌, subst}
use Rattle.match_board.specs.Board.{cell_count}
use Rattle.match_puzzle.specs.Puzzle.{Task}
use Rattle.match_puzzle.specs.Prefix.{with_pair}
use Rattle.fit_counts.specs.FitRows.{AreRows, AreRowsBeside}
use Rattle.fit_counts.specs.FitSizes.{AreSizes}
use Rattle.fit_counts.specs.declared.fit_sizes.TheConstants.{COVERED}
use Rattle.fit_counts.proofs.FitRowLemmas.{rows_first}
use Rattle.fit_counts.proofs.PlacingLemmas.{pair_cell_in, pair_tile_in, enough_in_rows, sizes_without_tile, covered_without_tile, covered_pair}
use Rattle.fit_counts.proofs.placing.Counts.take_out.Goals as goal
use Rattle.fit_counts.proofs.placing.Counts.take_out.Goals.{After-from-cells, After-clear}

cells_is : (c : After-from-cells) → c.from-cells.result ≡ cell_count c.args.partial.now.puzzle.board
cells_is c = c.from-cells.ensures ∙ c.cells.ensures.count ∙ ap cell_count (c.board.ensures.value ∙ ap (λ (p : Task). p.board) c.puzzle.ensures.same)

cell_in : (c : After-from-cells) → c.args.pair.cell < cell_count c.args.partial.now.puzzle.board
cell_in c = pair_cell_in c.args.partial.now.puzzle c.args.partial.now.placed c.args.pair c.requires.fits c.puzzle.ensures.prefix

tile_in : (c : After-from-cells) → c.args.pair.placement.tile < length c.args.partial.now.puzzle.words
tile_in c = pair_tile_in c.args.partial.now.puzzle c.args.partial.now.placed c.args.pair c.requires.fits

rows_are : (c : After-clear) → AreRowsBeside c.args.partial.now.puzzle c.args.partial.now.placed c.args.pair 0 c.clear.new.self
rows_are c =
    let w = c.args.partial.now in
    let rows = subst (AreRows w.puzzle w.placed) (sym c.take_out_cell.ensures.rows) c.requires.counts.rows in
    subst (AreRowsBeside w.puzzle w.placed c.args.pair 0) (sym c.clear.ensures) (rows_first w.puzzle w.placed c.args.pair c.requires.fits.free c.take_out_cell.new.self.rows rows)

pub clear-requires : goal.clear-requires
clear-requires c =
    let within = cell_in (goal.at.clear-requires c).After-from-cells in
    let long = c.requires.counts.rows.long in
    let same = ap (λ rows. length rows) c.take_out_cell.ensures.rows in
    omega (arith, within, long, same)

pub index_mut-requires : goal.index_mut-requires
index_mut-requires c =
    let within = cell_in (goal.at.index_mut-requires c).After-from-cells in
    let at = c.from.ensures in
    let long = c.take_out_beside.ensures.open_items.long in
    let len = c.take_out_beside.new.self.sizes.ok.0 in
    omega (arith, within, at, long, len)

pub index_mut-requires-2 : goal.index_mut-requires-2
index_mut-requires-2 c =
    let there = (goal.at.index_mut-requires-2 c).After-from-cells in
    let within = tile_in there in
    let at = c.from-2.ensures in
    let long = c.take_out_beside.ensures.open_items.long in
    let len = c.take_out_beside.new.self.sizes.ok.0 in
    omega (arith, within, at, long, len, cells_is there)

pub lower_cells-requires : goal.lower_cells-requires
lower_cells-requires c =
    let there = (goal.at.lower_cells-requires c).After-from-cells in
    let are = rows_are (goal.at.lower_cells-requires c).After-clear in
    let long = are.long in
    let size_long = c.take_out_cell.ensures.sizes.open_items.long in
    let tile = tile_in there in
    let few = c.puzzle.ensures.puzzle.tiles.few in
    let most = c.puzzle.ensures.puzzle.board.most in
    record {
      long = omega (arith, long, size_long);
      tile = omega (arith, few, tile);
      most = omega (arith, long, most);
      enough = enough_in_rows c.args.partial.now.puzzle c.args.partial.now.placed c.args.pair c.requires.fits c.clear.new.self are c.puzzle.ensures.puzzle c.puzzle.ensures.prefix c.take_out_cell.new.self.sizes.items c.take_out_cell.ensures.sizes.open_items;
    }

pub take_out_beside-requires : goal.take_out_beside-requires
take_out_beside-requires c =
    let are = rows_are (goal.at.take_out_beside-requires c).After-clear in
    record {
      fits = c.requires.fits;
      counts = record {
        rows = are;
        open_items = sizes_without_tile c.args.partial.now.puzzle c.args.partial.now.placed c.args.pair c.requires.fits c.clear.new.self are c.puzzle.ensures.puzzle c.puzzle.ensures.prefix c.take_out_cell.new.self.sizes.items c.take_out_cell.ensures.sizes.open_items
            c.lower_cells.new.sizes.items c.lower_cells.ensures.long c.lower_cells.ensures.cells c.lower_cells.ensures.tiles;
        settled = covered_without_tile c.args.partial.now.puzzle c.args.partial.now.placed c.args.pair c.requires.fits c.clear.new.self are c.take_out_cell.new.self.sizes.items
            c.lower_cells.new.sizes.items c.take_out_cell.ensures.sizes.settled c.lower_cells.ensures.cells c.lower_cells.ensures.tiles;
      };
    }

pub returns : goal.returns
returns c =
    let there = (goal.at.returns c).After-from-cells in
    let q' = with_pair c.args.partial.now.placed c.args.pair.cell c.args.pair.placement in
    let sizes = c.take_out_beside.new.self.sizes.items in
    let place : c.from-cells.result + c.from-2.result ≡ cell_count c.args.partial.now.puzzle.board + c.args.pair.placement.tile = let tile = c.from-2.ensures in omega (arith, tile, cells_is there) in
    record {
      rows = c.take_out_beside.ensures.rows;
      sizes = subst (λ k. AreSizes c.args.partial.now.puzzle q' (set (set sizes k COVERED) (c.from-cells.result + c.from-2.result) COVERED)) (sym c.from.ensures)
          (subst (λ k. AreSizes c.args.partial.now.puzzle q' (set (set sizes c.args.pair.cell COVERED) k COVERED)) (sym place)
          (covered_pair c.args.partial.now.puzzle c.args.partial.now.placed c.args.pair c.requires.fits sizes c.take_out_beside.ensures.open_items c.take_out_beside.ensures.settled (cell_in there) (tile_in there) c.puzzle.ensures.puzzle c.puzzle.ensures.prefix));
    }
