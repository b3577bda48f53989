use Rattle.std.proofs.Common.{◌≡◌, rules}
use Rattle.command_runs.proofs.check_runs.run_check.Goals as goal

-- what the structs of references leave behind them is what the run left there
pub returns : goal.returns
returns g c =
    let new = c.run_check_watched-ended.new in
    let puzzle : c.puzzle-1.given.0 ≡ new.inputs.puzzle.now = search rules in
    let list : c.list-1.given.0 ≡ new.inputs.list.now = search rules in
    let certificate : c.certificate-1.given.0 ≡ new.inputs.certificate.now = search rules in
    let writer : c.writer-1.given.0 ≡ new.outputs.sink.now = search rules in
    rw (puzzle, list, certificate, writer, c.without_hint.ensures) c.run_check_watched-ended.ensures.run
