use Rattle.std.proofs.Common.{◌<◌, ℕ, inr, refl, rules, slice_index, subst}
use Rattle.match_board.specs.Board.{side_count}
use Rattle.match_puzzle.specs.Puzzle.{Task}
use Rattle.show_text.specs.Face.{IsRuleSign}
use Rattle.show_text.proofs.faces.face_of.Goals as goal

pub returns-in-None-clause-face : goal.returns-in-None-clause-face
returns-in-None-clause-face c =
    let signs = c.signs_asked.result in
    record {
      marked = search rules;
      shows = inr (record {
        free = c.in-None.ensures.value;
        tile = refl;
        signs = subst (λ (p : Task). (side : ℕ) → side < side_count p.board → IsRuleSign p c.args.cell side (slice_index signs side))
            c.puzzle-puzzle.ensures.same c.signs_asked.ensures;
      });
    }
