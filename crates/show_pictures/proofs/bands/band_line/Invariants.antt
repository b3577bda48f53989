use Rattle.std.proofs.Common.{◌≡◌, Some, slice_get}
use Rattle.show_pictures.specs.Elements.{IsBand}
use Rattle.show_pictures.specs.Joined.{IsJoined}
use Rattle.show_pictures.specs.declared.canvases.Site.{Site}
use Rattle.show_pictures.proofs.bands.band_line.Given as goal

abbrev pub invariant-loop-side : goal.invariant-loop-side
invariant-loop-side l =
    (site : Site) → slice_get l.canvas.sites.items l.cell ≡ Some site
    → IsJoined (IsBand l.canvas.puzzle.now l.canvas.left l.canvas.top site l.cell) l.side l.line.items
