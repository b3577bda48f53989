use Rattle.std.proofs.Common.{◌≡◌, rules}
use Rattle.byte_streams.specs.Moves.{writing_of}
use Rattle.byte_streams.specs.Targets.{one_sink}
use Rattle.command_runs.specs.Pages.{PageGives}
use Rattle.command_runs.specs.Printing.{PrintingFails}
use Rattle.command_runs.specs.Runs.{unhinted}
use Rattle.command_runs.specs.declared.printing_runs.Printing.TheVariants as printings
use Rattle.command_orders.specs.GivenInputs.{readings}
use Rattle.command_orders.specs.OrderRuns.{EndsBy}
use Rattle.command_orders.specs.PlaceOrigins.{given_documents}
use Rattle.command_orders.proofs.GivenLemmas.{gave_as, left_as, stopped_as}
use Rattle.command_orders.proofs.OrderLemmas.{over_origin}
use Rattle.command_orders.proofs.place_runs.publish.Goals as goal

pub returns-clause-run : goal.returns-clause-run
returns-clause-run g c =
    let old = c.in_ok-readers.readers in
    let new = c.print_page.new.inputs in
    let read : c.input-1.given.0 ≡ new.input.now = search rules in
    let files = g.S.FileSystem in
    let file = g.S.Reader.Source in
    let system = c.args.system.now in
    let before = c.args.input.now in
    let given = c.args.given.now in
    let opened = c.in_ok-readers.ensures.opened in
    rw read (over_origin (readings g.I.Source file old new.readers.now before new.input.now) (given_documents files file system g.I.Source before new.input.now given)
    (EndsBy (PageGives c.args.plan.now)) (PrintingFails printings.Count) (one_sink (writing_of g.W.Sink c.args.output.now c.print_page.new.output))
    (gave_as files file system g.I.Source before new.input.now given old new.readers.now opened)
    (stopped_as files file system g.I.Source before new.input.now given old new.readers.now opened)
    (unhinted c.print_page.result) c.print_page.ensures.run)

pub returns-clause-unread : goal.returns-clause-unread
returns-clause-unread g c =
    let new = c.print_page.new.inputs in
    let read : c.input-1.given.0 ≡ new.input.now = search rules in
    rw read (left_as g.S.FileSystem g.S.Reader.Source c.args.system.now g.I.Source c.args.given.now c.in_ok-readers.readers c.args.input.now new.input.now c.in_ok-readers.ensures.opened c.print_page.ensures.same.2)
