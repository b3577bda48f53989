use Rattle.show_pictures.specs.Joined.{IsJoined}
use Rattle.show_pictures.specs.Elements.{IsPartLineAt}
use Rattle.show_pictures.proofs.parts.part_lines.Given as goal

abbrev pub invariant-loop-index : goal.invariant-loop-index
invariant-loop-index l =
    IsJoined (IsPartLineAt l.canvas.puzzle.now l.canvas.left l.canvas.top l.canvas.sites.items l.placements) l.index l.lines.items
