-- What lies below and above the triangles of a hexagon.
use Rattle.std.proofs.Common.{◌≡◌, ◌+◌, ℕ, arith}
use Rattle.match_board.specs.Board.{PointsUp, PointsDown, LiesBelow, LiesAgainst}
use Rattle.match_board.specs.declared.figures.Figure.TheVariants.{Hexagon}

-- side 1 of a triangle that points up lies against what is below
pub below_only : (size row place side row' place' side' : ℕ) → side ≡ 1 → PointsUp (Hexagon size) row place → LiesAgainst (Hexagon size) row place side row' place' side' → (row' ≡ row + 1) × LiesBelow (Hexagon size) row place place'
below_only size row place side row' place' side' middle up against = grind arith

-- side 1 of a triangle that points down lies against what is above
pub above_only : (size row place side row' place' side' : ℕ) → side ≡ 1 → PointsDown (Hexagon size) row place → LiesAgainst (Hexagon size) row place side row' place' side' → (row ≡ row' + 1) × LiesBelow (Hexagon size) row' place' place
above_only size row place side row' place' side' middle down against = grind arith
