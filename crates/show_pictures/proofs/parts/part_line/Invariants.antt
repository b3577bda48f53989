use Rattle.show_pictures.specs.Elements.{IsPart}
use Rattle.show_pictures.specs.Joined.{IsJoined}
use Rattle.show_pictures.proofs.parts.part_line.Given as goal

abbrev pub invariant-loop-side : goal.invariant-loop-side
invariant-loop-side l =
    IsJoined (IsPart l.canvas.puzzle.now l.canvas.left l.canvas.top l.site l.placement) l.side l.line.items
