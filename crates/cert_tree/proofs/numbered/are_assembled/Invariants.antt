use Rattle.std.proofs.Common.{◌≡◌, ◌<◌, ℕ, Some}
use Rattle.std.specs.Prelude.{slice_get}
use Rattle.cert_tree.proofs.numbered.are_assembled.Given as goal

-- The pieces up to the place have its numbers.
abbrev pub invariant-loop-place : goal.invariant-loop-place
invariant-loop-place g l = (n : ℕ) (piece : g.row.N.Denot) → n < l.place → slice_get l.pieces n ≡ Some piece → g.N.Numbered.numbered piece ≡ n
