use Rattle.std.proofs.Common.{◌≡◌, length}
use Rattle.puzzle_maker.proofs.dice.Dice.shuffle.Given as goal

abbrev pub invariant-loop-place : goal.invariant-loop-place
invariant-loop-place g l = length l.things ≡ l.count
