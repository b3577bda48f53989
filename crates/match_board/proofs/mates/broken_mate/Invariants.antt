use Rattle.std.proofs.Common.{◌<◌, ℕ, length}
use Rattle.match_board.specs.Mates.{HasMate}
use Rattle.match_board.proofs.mates.broken_mate.Given as goal

abbrev pub invariant-loop-colour : goal.invariant-loop-colour
invariant-loop-colour l = (n : ℕ) → n < l.colour → n < length l.mates → HasMate l.mates n
