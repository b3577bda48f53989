use Rattle.std.proofs.Common.{Err, map, subst}
use Rattle.std.specs.String.{string_bytes}
use Rattle.byte_streams.specs.Moves.{writing_of}
use Rattle.byte_streams.specs.Targets.{one_sink}
use Rattle.command_runs.specs.Runs.{Runs}
use Rattle.command_runs.specs.Totals.{TotalFails, TotalGives}
use Rattle.command_orders.specs.PartFiles.{part_files}
use Rattle.command_orders.proofs.OrderLemmas.{then_done}
use Rattle.command_orders.proofs.order_runs.add_up_files.Goals as goal

pub returns-in-Err : goal.returns-in-Err
returns-in-Err g c =
    let from = part_files g.S.FileSystem g.S.Reader.Source c.args.system.now (map string_bytes c.args.names.now) in
    let to = writing_of g.W.Sink c.args.output.now c.run_total.new.writer in
    let named = subst (λ names. Runs (part_files g.S.FileSystem g.S.Reader.Source c.new-files.result.system.now (map string_bytes names.now)) TotalGives TotalFails (one_sink to) (Err c.in-Err.fault)) c.new-files.ensures.names c.in-Err.ensures.run in
    let run = subst (λ system. Runs (part_files g.S.FileSystem g.S.Reader.Source system.now (map string_bytes c.args.names.now)) TotalGives TotalFails (one_sink to) (Err c.in-Err.fault)) c.new-files.ensures.system named in
    then_done to from from TotalGives TotalFails (λ t gave. gave) (λ f stops. stops) (Err c.in-Err.fault) run
