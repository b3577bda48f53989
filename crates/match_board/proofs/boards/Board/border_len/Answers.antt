use Rattle.std.proofs.Common.{◌≡◌, [], arith, refl, subst}
use Rattle.match_board.specs.Board.{cell_count, IsBorderBefore}
use Rattle.match_board.proofs.BorderLemmas.{border_none, border_all}
use Rattle.match_board.proofs.boards.Board.border_len.Goals as goal

pub loop-cell-init : goal.loop-cell-init
loop-cell-init c = record { few = omega arith; counts = ([], border_none c.args.self.now, refl) }

pub loop-cell-preserved : goal.loop-cell-preserved
loop-cell-preserved c =
    let so_far = c.loop-cell.invariant.counts in
    let more = c.border_sides-count.ensures.counts so_far.0 so_far.1 in
    record { few = omega (arith, c.loop-cell.invariant.few, c.border_sides-count.ensures.few); counts = (more.0, more.1, omega (arith, more.2, so_far.2)) }

pub returns : goal.returns
returns c =
    let s = c.args.self.now in
    let so_far = c.loop-cell.invariant.counts in
    let at : c.loop-cell.cell ≡ cell_count s = omega (arith, c.loop-cell-test.false, c.cells-cell-end.ensures.count) in
    (so_far.0, border_all s so_far.0 (subst (λ k. IsBorderBefore s (k, 0) so_far.0) at so_far.1), so_far.2)
