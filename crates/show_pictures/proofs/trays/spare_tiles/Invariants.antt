use Rattle.std.proofs.Common.{◌≤◌, length}
use Rattle.show_pictures.proofs.TileLemmas.{SpareBefore}
use Rattle.show_pictures.proofs.trays.spare_tiles.Given as goal

abbrev pub invariant-loop-tile : goal.invariant-loop-tile
invariant-loop-tile l = record {
  listed : SpareBefore l.puzzle l.arrangement l.tile l.spare.items;
  few : length l.spare.items ≤ l.tile;
}
