use Rattle.std.proofs.Common.{◌+◌, ◌∙◌, length, arith, refl, sym, subst, inl, inr, ⊎_elim}
use Rattle.std.proofs.lemmas.Option.{slice_get_read}
use Rattle.match_board.specs.Borders.{rule_of}
use Rattle.match_puzzle.proofs.ClueFaultLemmas.{AreRight, right_none, right_more, right_all, first_wrong}
use Rattle.match_puzzle.specs.Tables.{IsNextNumber}
use Rattle.match_puzzle.proofs.TableLemmas.{number_at_first}
use Rattle.match_puzzle.proofs.clue_faults.broken_clue.Goals as goal

pub loop-place-init : goal.loop-place-init
loop-place-init c = record {
  right = right_none c.args.board.now (rule_of c.args.rules.now.border.now) c.args.rules.now.clues.now;
  passed = omega arith;
  number = number_at_first c.args.board.now;
}

pub returns-then-is_misplaced : goal.returns-then-is_misplaced
returns-then-is_misplaced c = λ version tiles.
    let clues = c.args.rules.now.clues.now in
    let x = c.index-clues-place.result in
    let at = slice_get_read clues (length clues) c.loop-place.place x refl c.loop-place-test.true c.index-clues-place.is in
    let cells = c.cells-cells.ensures.count in
    first_wrong c.args.board.now c.args.rules.now version tiles c.loop-place.place c.loop-place.least c.loop-place.invariant.right x at
    (⊎_elim
    (λ low. inr (inl low))
    (λ other. ⊎_elim (λ high. inl (omega (arith, high, cells))) (λ odd. inr (inr (inl (λ e. odd (e ∙ sym c.sides.ensures.count))))) other)
    (rw c.if-is_misplaced.true at c.is_misplaced.ensures))

pub returns-then-defies_border : goal.returns-then-defies_border
returns-then-defies_border c = λ version tiles.
    let clues = c.args.rules.now.clues.now in
    let x = c.index-clues-place.result in
    let at = slice_get_read clues (length clues) c.loop-place.place x refl c.loop-place-test.true c.index-clues-place.is in
    first_wrong c.args.board.now c.args.rules.now version tiles c.loop-place.place c.loop-place.least c.loop-place.invariant.right x at (inr (inr (inr (rw c.if-defies_border.true at c.defies_border.ensures))))

pub number_at-number-requires-clause-order : goal.number_at-number-requires-clause-order
number_at-number-requires-clause-order c =
    let placed = rw c.if-is_misplaced.false at c.is_misplaced.ensures in
    let least = placed.0 in
    let passed = c.loop-place.invariant.passed in
    let here = c.cell-cell.ensures in
    omega (arith, least, passed, here)

pub number_at-number-requires-clause-cell : goal.number_at-number-requires-clause-cell
number_at-number-requires-clause-cell c =
    let placed = rw c.if-is_misplaced.false at c.is_misplaced.ensures in
    let within = placed.1 in
    let cells = c.cells-cells.ensures.count in
    let here = c.cell-cell.ensures in
    omega (arith, within, cells, here)

pub defies_border-requires-clause-cell : goal.defies_border-requires-clause-cell
defies_border-requires-clause-cell c =
    let placed = rw c.if-is_misplaced.false at c.is_misplaced.ensures in
    let within = placed.1 in
    let cells = c.cells-cells.ensures.count in
    omega (arith, within, cells)

pub defies_border-requires-clause-sides : goal.defies_border-requires-clause-sides
defies_border-requires-clause-sides c = let placed = rw c.if-is_misplaced.false at c.is_misplaced.ensures in placed.2 ∙ c.sides.ensures.count

pub defies_border-requires-clause-number : goal.defies_border-requires-clause-number
defies_border-requires-clause-number c = subst (λ k. IsNextNumber c.args.board.now (k, 0) c.number_at-number.result) c.cell-cell.ensures c.number_at-number.ensures

pub loop-place-preserved : goal.loop-place-preserved
loop-place-preserved c =
    let clues = c.args.rules.now.clues.now in
    let x = c.index-clues-place.result in
    let at = slice_get_read clues (length clues) c.loop-place.place x refl c.loop-place-test.true c.index-clues-place.is in
    let placed = rw c.if-is_misplaced.false at c.is_misplaced.ensures in
    let cells = c.cells-cells.ensures.count in
    let cell = placed.1 in
    record {
      right = subst (λ k. AreRight c.args.board.now (rule_of c.args.rules.now.border.now) clues (c.loop-place.place + 1) (k + 1)) (sym c.cell-cell.ensures)
          (right_more c.args.board.now (rule_of c.args.rules.now.border.now) clues c.loop-place.place c.loop-place.least c.loop-place.invariant.right x at placed.0 (omega (arith, cell, cells)) (placed.2 ∙ c.sides.ensures.count)
          (rw c.if-defies_border.false at c.defies_border.ensures));
      passed = omega arith;
      number = c.number_at-number.ensures;
    }

pub returns : goal.returns
returns c = λ version tiles. right_all c.args.board.now c.args.rules.now version tiles c.loop-place.place c.loop-place.least c.loop-place.invariant.right c.loop-place-test.false
