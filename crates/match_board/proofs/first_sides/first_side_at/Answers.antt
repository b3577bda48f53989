use Rattle.std.proofs.Common.{false, arith, below_more, subst}
use Rattle.match_board.proofs.first_sides.first_side_at.Goals as goal

pub loop-side-init : goal.loop-side-init
loop-side-init g c k lt = absurd (omega (arith, lt))

pub loop-side-preserved : goal.loop-side-preserved
loop-side-preserved g c =
    below_more (λ k. goal.F-post g c.args.test.now c.args.cell k false) c.loop-side.side c.loop-side.invariant
    (subst (goal.F-post g c.args.test.now c.args.cell c.loop-side.side) c.if-test.false c.test.ensures)

pub returns : goal.returns
returns g c side lt =
    let past = c.loop-side-test.false in
    let count = c.sides-side-end.ensures.count in
    c.loop-side.invariant side (omega (arith, lt, past, count))
