use Rattle.std.proofs.Common.{◌≡◌, ◌+◌, subst, sym, arith, ap, ◌∙◌}
use Rattle.match_board.specs.Board.{cell_count}
use Rattle.match_puzzle.specs.Puzzle.{Task}
use Rattle.match_puzzle.specs.declared.items.Item.TheVariants.{Cell}
use Rattle.show_reasons.specs.Reasons.{AreReasonsBefore}
use Rattle.show_reasons.proofs.ReasonLemmas.{on_empty, cell_put, cell_skipped, after_cells}
use Rattle.show_reasons.proofs.finding.put_cells.Goals as goal
use Rattle.show_reasons.proofs.finding.put_cells.Goals.{then-count-eq0+in_ok-push, else-count-eq0}

pub loop-cell-preserved : goal.loop-cell-preserved
loop-cell-preserved c =
    let p = c.args.partial.now.puzzle in
    let counted = on_empty p c.args.partial.now.placed (Cell c.loop-cell.cell) c.count.result c.requires.empty c.count.ensures in
    let end : c.cells-cell-end.result ≡ cell_count p.board = c.cells-cell-end.ensures.count ∙ ap cell_count (c.board.ensures.value ∙ ap (λ (q : Task). q.board) c.puzzle.ensures.same) in
    elim c.if-count-eq0.branch [
      | then-count-eq0+in_ok-push w ↦
          subst (λ items. AreReasonsBefore p (1, c.loop-cell.cell + 1) items) (sym (ap (λ v. v.items) w.reasons-is ∙ w.in_ok-push.ensures.items))
          (cell_put p c.loop-cell.cell c.count.result c.loop-cell.reasons.items (omega (arith, end, c.loop-cell-test.true)) counted w.if-count-eq0.true c.loop-cell.invariant)
      | else-count-eq0 w ↦
          subst (λ items. AreReasonsBefore p (1, c.loop-cell.cell + 1) items) (sym (ap (λ v. v.items) w.reasons-is))
          (cell_skipped p c.loop-cell.cell c.count.result c.loop-cell.reasons.items counted w.if-count-eq0.false c.loop-cell.invariant)
    ]

pub returns : goal.returns
returns c =
    let p = c.args.partial.now.puzzle in
    let end : c.cells-cell-end.result ≡ cell_count p.board = c.cells-cell-end.ensures.count ∙ ap cell_count (c.board.ensures.value ∙ ap (λ (q : Task). q.board) c.puzzle.ensures.same) in
    let at : c.loop-cell.cell ≡ cell_count p.board = omega (arith, end, c.loop-cell-test.false, c.loop-cell.auto.cell-end) in
    after_cells p c.loop-cell.reasons.items (subst (λ n. AreReasonsBefore p (1, n) c.loop-cell.reasons.items) at c.loop-cell.invariant)
