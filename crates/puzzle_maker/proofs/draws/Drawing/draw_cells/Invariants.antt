use Rattle.std.proofs.Common.{◌≡◌}
use Rattle.puzzle_maker.proofs.draws.Drawing.draw_cells.Given as goal

abbrev pub invariant-loop-cell : goal.invariant-loop-cell
invariant-loop-cell l = l.self.plan ≡ l.fn.self.plan
