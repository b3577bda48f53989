use Rattle.std.proofs.Common.{◌≤◌, ◌*◌}
use Rattle.puzzle_maker.proofs.outsides.asked_by.Given as goal

abbrev pub invariant-loop-cell : goal.invariant-loop-cell
invariant-loop-cell l = l.number ≤ 4 * l.cell
