use Rattle.std.proofs.Common.{◌≡◌, vec_len}
use Rattle.puzzle_maker.proofs.draws.Drawing.cut.Given as goal

abbrev pub invariant-loop-number : goal.invariant-loop-number
invariant-loop-number l = vec_len l.tiles ≡ l.number
