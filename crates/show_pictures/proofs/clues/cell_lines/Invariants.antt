use Rattle.show_pictures.specs.Joined.{IsJoined}
use Rattle.show_pictures.specs.Clued.{IsClueLineAt}
use Rattle.show_pictures.proofs.clues.cell_lines.Given as goal

abbrev pub invariant-loop-cell : goal.invariant-loop-cell
invariant-loop-cell l =
    IsJoined (IsClueLineAt l.canvas.puzzle.now l.canvas.left l.canvas.top l.canvas.sites.items) l.cell l.lines.items
