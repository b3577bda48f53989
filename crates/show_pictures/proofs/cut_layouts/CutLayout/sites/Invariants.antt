use Rattle.std.proofs.Common.{◌≡◌, length}
use Rattle.show_pictures.proofs.cut_layouts.CutLayout.sites.Given as goal

abbrev pub invariant-loop-index : goal.invariant-loop-index
invariant-loop-index l = length l.sites.items ≡ l.index
