use Rattle.std.proofs.Common.{◌<◌, ◌≤◌, ℕ, vec_len}
use Rattle.puzzle_maker.specs.Like.{IsInside}
use Rattle.puzzle_maker.proofs.frames.inner_colours.Given as goal

abbrev pub invariant-loop-colour : goal.invariant-loop-colour
invariant-loop-colour l = record {
  some : (colour : ℕ) → colour < l.colour → IsInside l.mates l.frame colour → 1 ≤ vec_len l.inner;
  few : vec_len l.inner ≤ l.colour;
}
