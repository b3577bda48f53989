use Rattle.std.proofs.Common.{◌≡◌, inl, map, refl}
use Rattle.std.specs.String.{string_bytes}
use Rattle.byte_streams.specs.Moves.{writing_of}
use Rattle.command_orders.specs.InputUse.{LeavesInput, reads_input}
use Rattle.command_orders.specs.OrderRuns.{RunOf}
use Rattle.command_orders.proofs.WordLemmas.{refused}
use Rattle.command_orders.proofs.word_runs.run_words.Goals as goal

pub returns-in-Ok-clause-run : goal.returns-in-Ok-clause-run
returns-in-Ok-clause-run g c = inl (c.in-Ok.order, c.in-Ok.ensures.order, c.carry_out.ensures.run)

pub returns-in-Err-clause-run : goal.returns-in-Err-clause-run
returns-in-Err-clause-run g c =
    let output = writing_of g.W.Sink c.args.streams.now.output.now c.refuse.new.output in
    let errors = writing_of g.E.Sink c.args.streams.now.errors.now c.refuse.new.errors in
    let input = c.args.streams.now.input.now in
    refused (map string_bytes c.args.words.now) (λ order result. LeavesInput (reads_input order) input input × RunOf g.S.FileSystem g.S.Reader.Source g.I.Source c.args.system.now input input c.args.system.now output order result)
    ((c.args.system.now ≡ c.args.system.now) × (input ≡ input)) (refl, refl) output errors c.refuse.result
    c.in-Err.fault c.in-Err.ensures.refused c.refuse.ensures
