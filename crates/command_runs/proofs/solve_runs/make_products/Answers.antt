use Rattle.std.proofs.Common.{List, ℕ, Ok, subst}
use Rattle.match_text.specs.Puzzles.{PuzzleReads}
use Rattle.command_runs.proofs.solve_runs.make_products.Goals as goal

pub returns : goal.returns
returns g c =
    c.solved.ensures c.args.text.now
    (subst (λ (t : List ℕ). PuzzleReads t (Ok c.in_ok-puzzle.puzzle)) c.bytes.ensures.bytes c.in_ok-puzzle.ensures.exact)
