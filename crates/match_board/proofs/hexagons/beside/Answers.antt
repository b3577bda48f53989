use Rattle.std.proofs.Common.{subst, sym, ◌∙◌, arith}
use Rattle.match_board.specs.Board.{IsPlace, PointsUp, PointsDown}
use Rattle.match_board.specs.declared.figures.Figure.TheVariants.{Hexagon}
use Rattle.match_limits.proofs.OptionLemmas.{none_some}
use Rattle.match_board.proofs.HexagonLemmas.{below_only, above_only}
use Rattle.match_board.proofs.hexagons.beside.Goals as goal

pub returns-in_err-below-clause-only : goal.returns-in_err-below-clause-only
returns-in_err-below-clause-only c = λ r p k there against.
    let s = Hexagon c.args.size in
    let up : PointsUp s c.args.row c.args.place = grind (arith, c.if-points_up.true) in
    let below = below_only _ _ _ _ _ _ _ c.if-side-eq1.true up against in
    let met = c.below.ensures.only p (subst (λ n. IsPlace s n p) below.0 there) below.1 in
    absurd (none_some (sym c.in_err-below.was ∙ met))

pub returns-in_err-row-clause-only : goal.returns-in_err-row-clause-only
returns-in_err-row-clause-only c = λ r p k there against.
    let s = Hexagon c.args.size in
    let down : PointsDown s c.args.row c.args.place = grind (arith, c.if-points_up.false) in
    let above = above_only _ _ _ _ _ _ _ c.if-side-eq1.true down against in
    let met = c.above.ensures.only r p above.0 above.1 in
    absurd (none_some (sym c.in_err-row.was ∙ met))
