use Rattle.std.proofs.Common.{◌≡◌, rules}
use Rattle.command_runs.proofs.solve_runs.run_solve.Goals as goal

-- what the structs of references leave behind them is what the run left there
pub returns : goal.returns
returns g c =
    let new = c.run_solve_watched.new in
    let puzzle : c.puzzle-1.given.0 ≡ new.inputs.source.now = search rules in
    let list : c.list-1.given.0 ≡ new.outputs.list.now = search rules in
    let certificate : c.certificate-1.given.0 ≡ new.outputs.certificate.now = search rules in
    let report : c.writer-1.given.0 ≡ new.outputs.report.now = search rules in
    rw (puzzle, list, certificate, report, c.without_hint.ensures) c.run_solve_watched.ensures.run
