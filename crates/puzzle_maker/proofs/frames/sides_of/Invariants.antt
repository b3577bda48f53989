use Rattle.std.proofs.Common.{◌≡◌, ◌≤◌, ◌==◌, count_by, take}
use Rattle.match_board.specs.Tile.{word}
use Rattle.puzzle_maker.proofs.frames.sides_of.Given as goal

abbrev pub invariant-loop-side : goal.invariant-loop-side
invariant-loop-side l = record {
  count : l.count ≡ count_by (λ shown. shown == l.colour) (take l.side (word l.tile));
  few : l.count ≤ l.side;
}
