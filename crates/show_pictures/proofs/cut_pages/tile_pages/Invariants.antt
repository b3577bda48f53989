use Rattle.std.proofs.Common.{◌≡◌, ◌<◌, ◌≤◌, ◌++◌, All, List, length}
use Rattle.match_limits.specs.declared.TheConstants.{MOST_TILES}
use Rattle.match_puzzle.specs.declared.placements.Placement.{Placement}
use Rattle.show_pictures.specs.Cuts.{AreTilePages}
use Rattle.show_pictures.proofs.cut_pages.tile_pages.Given as goal

-- the tiles on pages so far, and those that are left
abbrev pub invariant-loop-rest : goal.invariant-loop-rest
invariant-loop-rest l = record {
  shown : (done : List Placement) × (l.tiles ≡ done ++ l.rest) × AreTilePages l.fn.plan.size l.puzzle done l.text.items;
  tiles : All (λ x. x.tile < length l.puzzle.words) l.rest;
  few : length l.rest ≤ MOST_TILES;
}

abbrev pub decreases-loop-rest : goal.decreases-loop-rest
decreases-loop-rest l = length l.rest
