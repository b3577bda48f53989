use Rattle.std.proofs.Common.{◌≡◌, ◌<◌, ℕ, Some, slice_get}
use Rattle.puzzle_symmetry.specs.Motion.{Motion}
use Rattle.puzzle_symmetry.specs.Symmetry.{IsSymmetry}
use Rattle.find_search.proofs.crews.see_symmetries.Given as goal

-- Those that were seen are symmetries.
abbrev pub invariant-loop-symmetry : goal.invariant-loop-symmetry
invariant-loop-symmetry l = (n : ℕ) (m : Motion) → n < l.symmetry-index → slice_get l.symmetries n ≡ Some m → IsSymmetry m.puzzle m.line
