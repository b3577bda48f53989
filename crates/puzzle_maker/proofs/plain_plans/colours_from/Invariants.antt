use Rattle.std.proofs.Common.{◌≡◌, ◌-◌, vec_len}
use Rattle.puzzle_maker.proofs.plain_plans.colours_from.Given as goal

abbrev pub invariant-loop-colour : goal.invariant-loop-colour
invariant-loop-colour l = vec_len l.inner ≡ l.colour - l.least
