use Rattle.std.proofs.Common.{◌≡◌, vec_len}
use Rattle.puzzle_maker.proofs.draws.Drawing.shuffled.Given as goal

abbrev pub invariant-loop-place : goal.invariant-loop-place
invariant-loop-place l = vec_len l.pieces ≡ l.place
