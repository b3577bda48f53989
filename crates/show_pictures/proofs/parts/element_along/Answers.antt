use Rattle.std.proofs.Common.{subst, sym}
use Rattle.show_pictures.specs.Elements.{IsAlong}
use Rattle.show_pictures.proofs.EdgeLemmas.{element_begun}
use Rattle.show_pictures.proofs.parts.element_along.Goals as goal

pub returns : goal.returns
returns c =
    let along = subst (IsAlong c.args.canvas.now.puzzle.now c.args.colour) (sym c.as_bytes.ensures.value) c.in_ok-path.ensures in
    element_begun _ _ _ _ _ _ _ c.in_ok-element.ensures c.in_ok-extend_from_slice.ensures.items along
