use Rattle.std.proofs.Common.{◌≡◌}
use Rattle.puzzle_maker.proofs.draws.Drawing.draw_further_tile.Given as goal

abbrev pub invariant-loop-side : goal.invariant-loop-side
invariant-loop-side l = l.self.plan ≡ l.fn.self.plan
