use Rattle.std.proofs.Common.{◌<◌, ℕ}
use Rattle.match_board.specs.Mates.{mate_in}
use Rattle.puzzle_maker.proofs.like_plans.has_lone_mate.Given as goal

abbrev pub invariant-loop-colour : goal.invariant-loop-colour
invariant-loop-colour l = (colour : ℕ) → colour < l.colour → mate_in l.mates colour < l.colours
