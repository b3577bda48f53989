use Rattle.std.proofs.Common.{◌≤◌, ◌+◌}
use Rattle.puzzle_maker.proofs.outsides.asked_at.Given as goal

abbrev pub invariant-loop-side : goal.invariant-loop-side
invariant-loop-side l = l.number ≤ l.before + l.side
