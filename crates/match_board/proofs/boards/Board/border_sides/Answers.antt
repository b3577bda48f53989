use Rattle.std.proofs.Common.{◌≡◌, MatchBool, Bool, arith, subst}
use Rattle.match_board.specs.Board.{side_count, IsBorderPair, IsBorderBefore}
use Rattle.match_board.proofs.BorderLemmas.{border_next, inner_next, border_row}
use Rattle.match_board.proofs.boards.Board.border_sides.Goals as goal
use Rattle.match_board.proofs.boards.Board.border_sides.Goals.{then-is_border, else-is_border}

pub loop-side-init : goal.loop-side-init
loop-side-init c = record { few = omega arith; counts = λ before h. (before, h, omega arith) }

pub loop-side-preserved : goal.loop-side-preserved
loop-side-preserved c =
    let s = c.args.self.now in
    let Is : Bool → Type 0 = λ b. MatchBool b (IsBorderPair s c.args.cell c.loop-side.side) (IsBorderPair s c.args.cell c.loop-side.side → ⊥) in
    elim c.if-is_border.branch [
      | then-is_border w ↦ record {
        few = omega (arith, c.loop-side.invariant.few, w.count-is);
        counts = λ before h.
            let so_far = c.loop-side.invariant.counts before h in
            let more = border_next s c.args.cell c.loop-side.side so_far.0 (subst Is w.if-is_border.true c.is_border.ensures) so_far.1 in
            (more.0, more.1, omega (arith, more.2, so_far.2, w.count-is));
      }
      | else-is_border w ↦ record {
        few = omega (arith, c.loop-side.invariant.few, w.count-is);
        counts = λ before h.
            let so_far = c.loop-side.invariant.counts before h in
            (so_far.0, inner_next s c.args.cell c.loop-side.side so_far.0 (subst Is w.if-is_border.false c.is_border.ensures) so_far.1, omega (arith, so_far.2, w.count-is));
      }
    ]

pub returns-clause-counts : goal.returns-clause-counts
returns-clause-counts c = λ before h.
    let s = c.args.self.now in
    let so_far = c.loop-side.invariant.counts before h in
    let at : c.loop-side.side ≡ side_count s = omega (arith, c.loop-side-test.false, c.sides-side-end.ensures.count) in
    (so_far.0, border_row s c.args.cell so_far.0 (subst (λ k. IsBorderBefore s (c.args.cell, k) so_far.0) at so_far.1), so_far.2)
