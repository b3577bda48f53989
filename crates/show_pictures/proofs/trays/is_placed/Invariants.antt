use Rattle.std.proofs.Common.{◌≡◌, ◌≢◌, ◌<◌, ℕ, Some, slice_get}
use Rattle.match_puzzle.specs.declared.placements.Placement.{Placement}
use Rattle.show_pictures.proofs.trays.is_placed.Given as goal

abbrev pub invariant-loop-placement : goal.invariant-loop-placement
invariant-loop-placement l =
    (k : ℕ) (x : Placement) → k < l.placement-index → slice_get l.arrangement k ≡ Some x → x.tile ≢ l.tile
