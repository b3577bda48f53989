use Rattle.std.proofs.Common.{◌<◌, ℕ}
use Rattle.puzzle_maker.specs.Like.{IsInside}
use Rattle.puzzle_maker.proofs.frames.has_inner.Given as goal

abbrev pub invariant-loop-colour : goal.invariant-loop-colour
invariant-loop-colour l = (colour : ℕ) → colour < l.colour → IsInside l.mates l.frame colour → ⊥
