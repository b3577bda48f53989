use Rattle.show_pictures.specs.Pictures.{AreUnturned}
use Rattle.show_pictures.proofs.trays.unturned.Given as goal

abbrev pub invariant-loop-tile : goal.invariant-loop-tile
invariant-loop-tile l = AreUnturned l.tile l.placements.items
