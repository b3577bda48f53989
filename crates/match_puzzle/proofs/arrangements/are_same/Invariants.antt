use Rattle.std.proofs.Common.{◌≡◌, drop}
use Rattle.std.specs.Cmp.Lexicographic.{pointwise}
use Rattle.match_puzzle.specs.Equality.{is_same}
use Rattle.match_puzzle.proofs.arrangements.are_same.Given as goal

-- Those before this cell are the same.
abbrev pub invariant-loop-cell : goal.invariant-loop-cell
invariant-loop-cell l = pointwise is_same l.a l.b ≡ pointwise is_same (drop l.cell l.a) (drop l.cell l.b)
