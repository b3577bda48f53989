use Rattle.std.proofs.Common.{List, ℕ, Ok, subst}
use Rattle.std.proofs.lemmas.Result.{err_from_is_err_and}
use Rattle.match_text.specs.Puzzles.{PuzzleReads}
use Rattle.command_runs.proofs.FindingLemmas.{not_found}
use Rattle.command_runs.proofs.find_runs.found.Goals as goal

pub returns-in_err-printed : goal.returns-in_err-printed
returns-in_err-printed g c =
    let w = err_from_is_err_and c.from_residual-in_err-printed.result c.from_residual-in_err-printed.ensures.1 in
    let reads = subst (λ (t : List ℕ). PuzzleReads t (Ok c.in_ok-puzzle.puzzle)) c.bytes.ensures.bytes c.in_ok-puzzle.ensures.exact in
    rw (w.1, w.2) (not_found c.args.plan.now.orbits c.args.text.now c.in_ok-puzzle.puzzle reads c.in_err-printed.field-0.0 c.in_err-printed.ensures.fails)
