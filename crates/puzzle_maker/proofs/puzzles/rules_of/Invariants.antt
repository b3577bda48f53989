use Rattle.std.proofs.Common.{◌≡◌, Some, map, take}
use Rattle.puzzle_maker.proofs.puzzles.rules_of.Given as goal

abbrev pub invariant-loop-colour : goal.invariant-loop-colour
invariant-loop-colour l = l.rules.items ≡ map Some (take l.colour-index l.colours)
