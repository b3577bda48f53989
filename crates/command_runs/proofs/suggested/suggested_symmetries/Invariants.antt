use Rattle.std.proofs.Common.{All, map}
use Rattle.match_symmetry.specs.Suggestions.{IsAskedFor}
use Rattle.puzzle_symmetry.specs.Motion.{AreOfPuzzle, line_of}
use Rattle.puzzle_symmetry.specs.Symmetry.{IsSymmetry}
use Rattle.command_runs.proofs.suggested.suggested_symmetries.Given as goal

abbrev pub invariant-loop-line : goal.invariant-loop-line
invariant-loop-line l = record {
  puzzle : AreOfPuzzle l.puzzle l.symmetries.items;
  asked : All (λ g. IsSymmetry l.puzzle g × IsAskedFor l.fn.asked g) (map line_of l.symmetries.items);
}
