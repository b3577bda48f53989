use Rattle.std.proofs.Common.{◌≡◌, ◌<◌, ℕ, Some, slice_get}
use Rattle.match_limits.specs.declared.TheConstants.{MOST_COLOURS}
use Rattle.match_board.proofs.borders.first_bad_colour.Given as goal

abbrev pub invariant-loop-place : goal.invariant-loop-place
invariant-loop-place l = (k colour : ℕ) → k < l.place → slice_get l.rules k ≡ Some (Some colour) → colour < MOST_COLOURS
