use Rattle.std.proofs.Common.{◌≡◌, max, IfOk, arith, subst}
use Rattle.match_puzzle.specs.Puzzle.{Task, IsPuzzle, second_form_of}
use Rattle.match_puzzle.proofs.PuzzleAlike.{second_is_puzzle}
use Rattle.match_puzzle.proofs.puzzles.Puzzle.second_form.Goals as goal

pub from_parts-requires : goal.from_parts-requires
from_parts-requires c =
    let version : c.max-version.result ≡ max 2 c.self.inside.version = let more = c.max-version.ensures in omega (arith, more) in
    rw (c.second_form-board.ensures, c.deref.ensures.value, c.deref-2.ensures.value, c.deref-3.ensures.value, version) (second_is_puzzle _ c.self.invariant.puzzle)

pub returns-clause-form : goal.returns-clause-form
returns-clause-form c =
    let version : c.max-version.result ≡ max 2 c.self.inside.version = let more = c.max-version.ensures in omega (arith, more) in
    subst (λ (q : Task). IfOk c.from_parts.result (λ p. (p ≡ second_form_of q) × IsPuzzle p)) c.self.view_is
    (rw (c.second_form-board.ensures, c.deref.ensures.value, c.deref-2.ensures.value, c.deref-3.ensures.value, version) at c.from_parts.ensures)
