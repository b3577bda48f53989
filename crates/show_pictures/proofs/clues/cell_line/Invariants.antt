use Rattle.std.proofs.Common.{◌≡◌, Some, slice_get}
use Rattle.show_pictures.specs.Clued.{IsClued}
use Rattle.show_pictures.specs.Joined.{IsJoined}
use Rattle.show_pictures.specs.declared.canvases.Site.{Site}
use Rattle.show_pictures.proofs.clues.cell_line.Given as goal

abbrev pub invariant-loop-side : goal.invariant-loop-side
invariant-loop-side l =
    (site : Site) → slice_get l.canvas.sites.items l.cell ≡ Some site
    → IsJoined (IsClued l.canvas.puzzle.now l.canvas.left l.canvas.top site l.cell) l.side l.line.items
