use Rattle.std.proofs.Common.{◌≡◌, rules}
use Rattle.byte_streams.specs.Moves.{writing_of}
use Rattle.command_orders.specs.GivenInputs.{readings}
use Rattle.command_orders.specs.PlaceOrigins.{given_documents}
use Rattle.command_orders.proofs.GivenLemmas.{gave_as, left_as, stopped_as}
use Rattle.command_orders.proofs.OrderLemmas.{documents_over}
use Rattle.command_runs.specs.Runs.{unhinted}
use Rattle.command_orders.proofs.place_runs.DocumentsOrder.run.Goals as goal

pub returns-clause-run : goal.returns-clause-run
returns-clause-run g c =
    let old = c.in_ok-readers.readers in
    let new = c.check_inputs.new.inputs in
    let read : c.input-1.given.0 ≡ new.input.now = search rules in
    let files = g.S.FileSystem in
    let file = g.S.Reader.Source in
    let system = c.args.system.now in
    let before = c.args.input.now in
    let opened = c.in_ok-readers.ensures.opened in
    rw read (documents_over c.args.self.now.plan (readings g.I.Source file old new.readers.now before new.input.now) (given_documents files file system g.I.Source before new.input.now c.args.given.now)
    (writing_of g.W.Sink c.args.output.now c.check_inputs.new.output)
    (gave_as files file system g.I.Source before new.input.now c.args.given.now old new.readers.now opened)
    (stopped_as files file system g.I.Source before new.input.now c.args.given.now old new.readers.now opened)
    (unhinted c.check_inputs.result) c.check_inputs.ensures.run)

pub returns-clause-unread : goal.returns-clause-unread
returns-clause-unread g c =
    let new = c.check_inputs.new.inputs in
    let read : c.input-1.given.0 ≡ new.input.now = search rules in
    rw read (left_as g.S.FileSystem g.S.Reader.Source c.args.system.now g.I.Source c.args.given.now c.in_ok-readers.readers c.args.input.now new.input.now c.in_ok-readers.ensures.opened c.check_inputs.ensures.same.2)
