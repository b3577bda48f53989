use Rattle.std.proofs.Common.{◌+◌, ◌++◌, sym, subst, ap, ◌∙◌}
use Rattle.show_pictures.specs.Elements.{IsPart, IsAtSide}
use Rattle.show_pictures.specs.Joined.{IsJoined}
use Rattle.show_pictures.proofs.JoinedLemmas.{joined_more}
use Rattle.show_pictures.proofs.parts.part_line.Goals as goal

pub loop-side-preserved : goal.loop-side-preserved
loop-side-preserved c =
    let canvas = c.args.canvas.now in
    let p = canvas.puzzle.now in
    let side = c.loop-side.side in
    let part : IsPart p canvas.left canvas.top c.args.site c.args.placement side c.in_ok-part.part.items =
    subst (λ colour. IsAtSide p canvas.left canvas.top c.args.site side colour c.in_ok-part.part.items) c.colour.ensures.colour c.in_ok-part.ensures in
    subst (IsJoined (IsPart p canvas.left canvas.top c.args.site c.args.placement) (side + 1))
    (sym (c.in_ok-extend_from_slice.ensures.items ∙ ap (λ t. c.loop-side.line.items ++ t) c.deref.ensures.value))
    (joined_more _ c.loop-side.invariant part)
