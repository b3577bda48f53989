use Rattle.std.proofs.Common.{subst, sym}
use Rattle.show_pictures.specs.Elements.{IsAlong}
use Rattle.show_pictures.proofs.EdgeLemmas.{element_begun}
use Rattle.show_pictures.proofs.parts.part.Goals as goal

pub returns : goal.returns
returns c =
    let along = subst (IsAlong c.args.canvas.now.puzzle.now c.args.colour) (sym c.as_bytes.ensures.value) c.in_ok-path.ensures in
    element_begun c.args.canvas.now.puzzle.now c.args.colour _ _ _ _ _ c.in_ok-part.ensures c.in_ok-extend_from_slice.ensures.items along
