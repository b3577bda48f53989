use Rattle.std.proofs.Common.{◌+◌, arith, sym, subst, below_more}
use Rattle.match_puzzle.specs.Tables.{IsNextNumber}
use Rattle.match_board.specs.Borders.{rule_of}
use Rattle.match_board.specs.Clues.{clue_of}
use Rattle.match_puzzle.proofs.ClueFaultLemmas.{AgreesAt, agrees_here, defies_here}
use Rattle.match_puzzle.proofs.TableLemmas.{number_after_border, number_after_edge}
use Rattle.match_puzzle.proofs.clue_faults.defies_border.Goals as goal
use Rattle.match_puzzle.proofs.clue_faults.defies_border.Goals.{then-is_border+else-are_other, else-is_border}

pub returns-then-are_other : goal.returns-then-are_other
returns-then-are_other c =
    defies_here c.args.board.now (rule_of c.args.border.now) (clue_of c.args.clue.now) c.loop-side.side c.loop-side.count c.rule_at.result c.asks.result c.requires.border
    (rw (c.if-is_border.true, c.cell.ensures) at c.is_border.ensures) c.loop-side.invariant.number c.rule_at.ensures c.asks.ensures.asked
    (rw c.if-are_other.true at c.are_other.ensures)

pub loop-side-preserved : goal.loop-side-preserved
loop-side-preserved c =
    let s = c.args.board.now in
    let border = rule_of c.args.border.now in
    let clue = clue_of c.args.clue.now in
    let side = c.loop-side.side in
    let inv = c.loop-side.invariant in
    elim c.if-is_border.branch [
      | then-is_border+else-are_other v ↦
          let pair = rw (v.if-is_border.true, c.cell.ensures) at c.is_border.ensures in
          record {
            number = subst (λ n. IsNextNumber s (clue.cell, side + 1) n) (sym v.count-is) (number_after_border s clue.cell side c.loop-side.count pair inv.number);
            agrees = below_more (AgreesAt s border clue) side inv.agrees
                (agrees_here s border clue side c.loop-side.count v.rule_at.result v.asks.result c.requires.border pair inv.number v.rule_at.ensures v.asks.ensures.asked (rw v.if-are_other.false at v.are_other.ensures));
          }
      | else-is_border v ↦
          let inner = rw (v.if-is_border.false, c.cell.ensures) at c.is_border.ensures in
          record {
            number = subst (λ n. IsNextNumber s (clue.cell, side + 1) n) (sym v.count-is) (number_after_edge s clue.cell side c.loop-side.count inner inv.number);
            agrees = below_more (AgreesAt s border clue) side inv.agrees (λ colour other pair asks shows. absurd (inner pair));
          }
    ]

pub returns : goal.returns
returns c = λ o. let lt = o.3.side_in in o.6 (c.loop-side.invariant.agrees o.0 (omega (arith, lt, c.loop-side-test.false, c.sides-side-end.ensures.count)) o.1 o.2 o.3 o.4 o.5)
