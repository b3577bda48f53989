use Rattle.std.proofs.Common.{◌≡◌, ◌++◌, drop}
use Rattle.std.specs.List.{flat_map}
use Rattle.show_pictures.specs.Arrows.{arrow_line}
use Rattle.show_pictures.proofs.arrows.put_arrows.Given as goal

-- the lines so far, and those that are left
abbrev pub invariant-loop-site : goal.invariant-loop-site
invariant-loop-site l =
    l.lines.items ++ flat_map (arrow_line l.canvas.left l.canvas.top) (drop l.site-index l.canvas.sites.items)
    ≡ l.fn.lines.items ++ flat_map (arrow_line l.canvas.left l.canvas.top) l.canvas.sites.items
