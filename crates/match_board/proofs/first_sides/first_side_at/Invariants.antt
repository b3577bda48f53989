use Rattle.std.proofs.Common.{◌<◌, ℕ, false}
use Rattle.match_board.proofs.first_sides.first_side_at.Given as goal

abbrev pub invariant-loop-side : goal.invariant-loop-side
invariant-loop-side g l = (k : ℕ) → k < l.side → goal.F-post g l.test l.cell k false
