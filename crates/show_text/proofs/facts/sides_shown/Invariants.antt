use Rattle.std.proofs.Common.{◌≡◌, ◌≤◌, ◌+◌, ◌*◌, count_by, sum_by, map, drop}
use Rattle.match_board.specs.Tile.{word}
use Rattle.show_text.specs.Facts.{is_colour}
use Rattle.show_text.proofs.facts.sides_shown.Given as goal

abbrev pub invariant-loop-tile : goal.invariant-loop-tile
invariant-loop-tile l = record {
  count : l.count + sum_by (count_by (is_colour l.colour)) (map word (drop l.tile-index l.tiles)) ≡ sum_by (count_by (is_colour l.colour)) (map word l.tiles);
  few : l.count ≤ 4 * l.tile-index;
}
