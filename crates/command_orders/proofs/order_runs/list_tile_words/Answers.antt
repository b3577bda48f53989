use Rattle.std.proofs.Common.{Ok, Err}
use Rattle.std.proofs.lemmas.Result.{err_from_is_err_and}
use Rattle.byte_streams.specs.Moves.{writing_of}
use Rattle.byte_streams.specs.Origins.{no_source}
use Rattle.command_runs.specs.Tiles.{TilesFail, TilesGive}
use Rattle.command_orders.proofs.OrderLemmas.{then_done}
use Rattle.command_orders.proofs.order_runs.list_tile_words.Goals as goal

pub returns-in_err-run_tiles : goal.returns-in_err-run_tiles
returns-in_err-run_tiles g c =
    let w = err_from_is_err_and c.from_residual.result c.from_residual.ensures.1 in
    rw (w.1, w.2) (then_done (writing_of g.W.Sink c.args.output.now c.run_tiles.new.writer) no_source no_source
    (TilesGive c.args.sides c.args.colours) (TilesFail c.args.sides c.args.colours) (λ t g. g) (λ f s. s) (Err c.in_err-run_tiles.field-0.0) c.in_err-run_tiles.ensures)

pub returns : goal.returns
returns g c =
    then_done (writing_of g.W.Sink c.args.output.now c.run_tiles.new.writer) no_source no_source
    (TilesGive c.args.sides c.args.colours) (TilesFail c.args.sides c.args.colours) (λ t g. g) (λ f s. s) (Ok tt) c.in_ok-run_tiles.ensures
