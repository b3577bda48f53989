use Rattle.std.proofs.Common.{Ok, Err}
use Rattle.std.proofs.lemmas.Result.{err_from_is_err_and}
use Rattle.byte_streams.specs.Moves.{reading_of, writing_of}
use Rattle.byte_streams.specs.Origins.{one_source}
use Rattle.byte_streams.specs.declared.faults.Document.TheVariants as documents
use Rattle.command_runs.specs.Cuts.{PrintsCut}
use Rattle.command_runs.specs.Describing.{DescribeFails}
use Rattle.command_orders.proofs.OrderLemmas.{then_done}
use Rattle.command_orders.proofs.place_runs.cut_tiles_from.Goals as goal

pub returns-in_err-run_cut : goal.returns-in_err-run_cut
returns-in_err-run_cut g c =
    let w = err_from_is_err_and c.from_residual.result c.from_residual.ensures.1 in
    let from = one_source documents.Puzzle (reading_of g.P.Source c.args.puzzle.now c.run_cut.new.puzzle) in
    rw (w.1, w.2) (then_done (writing_of g.W.Sink c.args.output.now c.run_cut.new.writer) from from (PrintsCut c.args.plan.size) DescribeFails (λ t gave. gave) (λ f stops. stops) (Err c.in_err-run_cut.field-0.0.fault) c.in_err-run_cut.ensures)

pub returns : goal.returns
returns g c =
    let from = one_source documents.Puzzle (reading_of g.P.Source c.args.puzzle.now c.run_cut.new.puzzle) in
    then_done (writing_of g.W.Sink c.args.output.now c.run_cut.new.writer) from from (PrintsCut c.args.plan.size) DescribeFails (λ t gave. gave) (λ f stops. stops) (Ok tt) c.in_ok-run_cut.ensures
