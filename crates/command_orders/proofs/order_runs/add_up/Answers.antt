use Rattle.std.proofs.Common.{map, subst}
use Rattle.std.specs.String.{string_bytes}
use Rattle.byte_streams.specs.Moves.{writing_of}
use Rattle.command_runs.specs.Runs.{unhinted}
use Rattle.command_orders.specs.OrderRuns.{TotalOf}
use Rattle.command_orders.specs.PartFiles.{part_files}
use Rattle.command_orders.proofs.order_runs.add_up.Goals as goal

pub returns-in-Input-clause-total : goal.returns-in-Input-clause-total
returns-in-Input-clause-total g c = rw c.in-Input.is c.add_up_input.ensures

pub returns-in-Files-clause-total : goal.returns-in-Files-clause-total
returns-in-Files-clause-total g c =
    rw c.in-Files.is (subst (λ names. TotalOf (part_files g.S.FileSystem g.S.Reader.Source c.args.system.now (map string_bytes names)) (writing_of g.W.Sink c.args.output.now c.add_up_files.new.output) (unhinted c.add_up_files.result)) c.deref.ensures.value c.add_up_files.ensures)
