use Rattle.puzzle_symmetry.specs.Motion.{AreOfPuzzle}
use Rattle.puzzle_maker.proofs.trials.symmetries_of.Given as goal

abbrev pub invariant-loop-line : goal.invariant-loop-line
invariant-loop-line l = AreOfPuzzle l.puzzle l.symmetries.items
