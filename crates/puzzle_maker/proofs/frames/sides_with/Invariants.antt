use Rattle.std.proofs.Common.{◌≡◌, ◌==◌, ◌≤◌, ◌*◌, count_by, sum_by, take}
use Rattle.puzzle_maker.proofs.frames.sides_with.Given as goal

abbrev pub invariant-loop-tile : goal.invariant-loop-tile
invariant-loop-tile l = record {
  sum : l.sum ≡ sum_by (count_by (λ shown. shown == l.colour)) (take l.tile l.model.words);
  few : l.sum ≤ 4 * l.tile;
}
