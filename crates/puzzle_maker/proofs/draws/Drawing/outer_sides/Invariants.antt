use Rattle.std.proofs.Common.{◌≤◌, ◌*◌, vec_len}
use Rattle.puzzle_maker.proofs.draws.Drawing.outer_sides.Given as goal

abbrev pub invariant-loop-cell : goal.invariant-loop-cell
invariant-loop-cell l = vec_len l.colours ≤ 4 * l.cell
