use Rattle.std.proofs.Common.{◌≡◌, ◌<◌, ℕ, List, Some, slice_get}
use Rattle.match_puzzle.specs.Arrangement.{IsArrangement}
use Rattle.match_puzzle.specs.declared.placements.Placement.{Placement}
use Rattle.match_puzzle.proofs.puzzles.Puzzle.first_wrong.Given as goal

-- Those before this one are arrangements.
abbrev pub invariant-loop-number : goal.invariant-loop-number
invariant-loop-number l = (earlier : ℕ) (a : List Placement) → earlier < l.number → slice_get l.listed earlier ≡ Some a → IsArrangement l.self a
