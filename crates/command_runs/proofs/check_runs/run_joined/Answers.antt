use Rattle.std.proofs.Common.{◌≡◌, rules}
use Rattle.command_runs.proofs.check_runs.run_joined.Goals as goal

-- what the structs of references leave behind them is what the run left there
pub returns : goal.returns
returns g c =
    let new = c.run_check_watched-ended.new in
    let reader : c.reader-1.given.0 ≡ new.inputs.input.now = search rules in
    let writer : c.writer-1.given.0 ≡ new.outputs.sink.now = search rules in
    rw (reader, writer, c.without_hint.ensures) c.run_check_watched-ended.ensures.run
