use Rattle.std.proofs.Common.{List, ℕ, Ok, subst}
use Rattle.std.proofs.lemmas.Result.{err_from_is_err_and}
use Rattle.match_text.specs.Puzzles.{PuzzleReads}
use Rattle.command_runs.proofs.GeneratingLemmas.{not_made_like}
use Rattle.command_runs.proofs.generate_runs.made_like.Goals as goal

pub returns-in_err-printed : goal.returns-in_err-printed
returns-in_err-printed g c =
    let w = err_from_is_err_and c.from_residual-in_err-printed.result c.from_residual-in_err-printed.ensures.1 in
    let reads = subst (λ (t : List ℕ). PuzzleReads t (Ok c.in_ok-model.model)) c.bytes.ensures.bytes c.in_ok-model.ensures.exact in
    rw (w.1, w.2) (not_made_like c.args.draft.now c.args.text.now c.in_ok-model.model reads c.in_err-printed.field-0.0 c.in_err-printed.ensures.fails)
