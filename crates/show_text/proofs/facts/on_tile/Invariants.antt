use Rattle.std.proofs.Common.{◌≡◌, ◌≤◌, ◌+◌, count_by, drop}
use Rattle.match_board.specs.Tile.{word}
use Rattle.show_text.specs.Facts.{is_colour}
use Rattle.show_text.proofs.facts.on_tile.Given as goal

abbrev pub invariant-loop-side : goal.invariant-loop-side
invariant-loop-side l = record {
  count : l.count + count_by (is_colour l.colour) (drop l.side (word l.tile)) ≡ count_by (is_colour l.colour) (word l.tile);
  few : l.count ≤ l.side;
}
