use Rattle.std.proofs.Common.{◌+◌, ◌++◌, refl, sym, ap, subst, ◌∙◌}
use Rattle.show_pictures.specs.Joined.{IsJoined, ended}
use Rattle.show_pictures.specs.Clued.{IsClueLineAt}
use Rattle.show_pictures.proofs.JoinedLemmas.{joined_more}
use Rattle.show_pictures.proofs.clues.cell_lines.Goals as goal

pub loop-cell-preserved : goal.loop-cell-preserved
loop-cell-preserved c =
    let canvas = c.args.canvas.now in
    let parts = c.in_ok-line.line.items in
    let put = c.in_ok-put_ended.ensures ∙ ap (λ b. c.loop-cell.lines.items ++ ended b) c.deref.ensures.value in
    let line : IsClueLineAt canvas.puzzle.now canvas.left canvas.top canvas.sites.items c.loop-cell.cell (ended parts) =
    λ site at. record { parts = parts; joined = c.in_ok-line.ensures site at; line = refl } in
    subst (IsJoined (IsClueLineAt canvas.puzzle.now canvas.left canvas.top canvas.sites.items) (c.loop-cell.cell + 1)) (sym put)
    (joined_more (ended parts) c.loop-cell.invariant line)
