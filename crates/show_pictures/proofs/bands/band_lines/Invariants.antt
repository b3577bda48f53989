use Rattle.show_pictures.specs.Joined.{IsJoined}
use Rattle.show_pictures.specs.Elements.{IsBandLineAt}
use Rattle.show_pictures.proofs.bands.band_lines.Given as goal

abbrev pub invariant-loop-cell : goal.invariant-loop-cell
invariant-loop-cell l =
    IsJoined (IsBandLineAt l.canvas.puzzle.now l.canvas.left l.canvas.top l.canvas.sites.items) l.cell l.lines.items
