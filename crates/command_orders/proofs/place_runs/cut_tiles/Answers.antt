use Rattle.std.specs.String.{string_bytes}
use Rattle.byte_streams.specs.Moves.{writing_of}
use Rattle.byte_streams.specs.Targets.{one_sink}
use Rattle.command_words.specs.declared.places.Place.TheVariants.{File}
use Rattle.command_orders.specs.OrderRuns.{ThenDone}
use Rattle.command_runs.specs.Runs.{unhinted}
use Rattle.command_runs.specs.Cuts.{PrintsCut}
use Rattle.command_runs.specs.Describing.{DescribeFails}
use Rattle.command_orders.proofs.OrderLemmas.{opened_as, over_place}
use Rattle.command_orders.proofs.place_runs.cut_tiles.Goals as goal

pub returns-in_ok-puzzle-in-File-clause-run : goal.returns-in_ok-puzzle-in-File-clause-run
returns-in_ok-puzzle-in-File-clause-run g c =
    let name = c.in-File.file in
    let given = c.args.input.now in
    let opened = opened_as g.S.FileSystem g.S.Reader.Source c.args.system.now (string_bytes name) c.deref.result.now c.in_ok-puzzle-in-File.puzzle c.cut_tiles_from.new.puzzle c.deref.ensures c.in_ok-puzzle-in-File.ensures.opened in
    let to = one_sink (writing_of g.W.Sink c.args.output.now c.cut_tiles_from.new.output) in
    rw c.in-File.is (over_place g.S.FileSystem g.S.Reader.Source c.args.system.now g.I.Source given given (ThenDone (PrintsCut c.args.plan.size)) DescribeFails to (File name) opened (unhinted c.cut_tiles_from.result) c.cut_tiles_from.ensures)
