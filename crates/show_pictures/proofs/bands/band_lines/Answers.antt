use Rattle.std.proofs.Common.{◌+◌, ◌++◌, refl, sym, ap, subst, ◌∙◌}
use Rattle.show_pictures.specs.Joined.{IsJoined, ended}
use Rattle.show_pictures.specs.Elements.{IsBandLineAt}
use Rattle.show_pictures.proofs.JoinedLemmas.{joined_more}
use Rattle.show_pictures.proofs.bands.band_lines.Goals as goal

pub loop-cell-preserved : goal.loop-cell-preserved
loop-cell-preserved c =
    let canvas = c.args.canvas.now in
    let bands = c.in_ok-line.line.items in
    let put = c.in_ok-put_ended.ensures ∙ ap (λ b. c.loop-cell.lines.items ++ ended b) c.deref.ensures.value in
    let line : IsBandLineAt canvas.puzzle.now canvas.left canvas.top canvas.sites.items c.loop-cell.cell (ended bands) =
    λ site at. record { bands = bands; joined = c.in_ok-line.ensures site at; line = refl } in
    subst (IsJoined (IsBandLineAt canvas.puzzle.now canvas.left canvas.top canvas.sites.items) (c.loop-cell.cell + 1)) (sym put)
    (joined_more (ended bands) c.loop-cell.invariant line)
