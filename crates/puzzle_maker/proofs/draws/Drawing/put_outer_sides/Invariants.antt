use Rattle.std.proofs.Common.{◌≤◌, ◌+◌, vec_len}
use Rattle.puzzle_maker.proofs.draws.Drawing.put_outer_sides.Given as goal

abbrev pub invariant-loop-side : goal.invariant-loop-side
invariant-loop-side l = vec_len l.colours ≤ vec_len l.fn.colours + l.side
