use Rattle.std.proofs.Common.{◌≡◌, length}
use Rattle.show_pictures.proofs.trays.tray_sites.Given as goal

abbrev pub invariant-loop-tile : goal.invariant-loop-tile
invariant-loop-tile l = length l.sites.items ≡ l.tile
