use Rattle.std.proofs.Common.{None, subst}
use Rattle.std.proofs.lemmas.Result.{IfOk-weaker}
use Rattle.match_puzzle.specs.Puzzle.{Task}
use Rattle.show_text.specs.Drawing.{IsDrawing}
use Rattle.show_text.proofs.arrangements.write_arrangement.Goals as goal

pub returns : goal.returns
returns c =
    let placed = c.in_ok-partial.partial.placed in
    IfOk-weaker c.write_drawing.result _ _
    (λ text drawn. record {
      placed = placed;
      just = c.in_ok-partial.ensures.placed;
      drawn = subst (λ (p : Task). IsDrawing (record { puzzle = p; placed = placed }) None text.items) c.in_ok-partial.ensures.puzzle drawn;
    })
    c.write_drawing.ensures
