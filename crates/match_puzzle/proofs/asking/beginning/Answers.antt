use Rattle.std.proofs.Common.{◌≡◌, ◌∙◌, [], Some, get_or, slice_get, arith, sym, subst, inl, ⊎_elim}
use Rattle.std.proofs.lemmas.Option.{slice_get-get_or, slice_get_within}
use Rattle.match_limits.proofs.Listings.{lt_or_le}
use Rattle.match_limits.specs.declared.TheConstants.{MOST_COLOURS}
use Rattle.match_puzzle.proofs.AskingLemmas.{asking_none, in_table, one_cell_begins}
use Rattle.match_puzzle.specs.declared.tables.CellSides.{CellSides}
use Rattle.match_puzzle.proofs.Prefixes.{inside}
use Rattle.match_puzzle.proofs.asking.beginning.Goals as goal

pub loop-cell-init : goal.loop-cell-init
loop-cell-init c = record {
  long = c.in_ok-asks.ensures.long;
  own = λ colour le.
      ⊎_elim
      (λ lt. c.in_ok-asks.ensures.colours colour lt)
      (λ past. let e : MOST_COLOURS ≡ colour = omega (arith, past, le) in c.in_ok-asks.ensures.any colour past (omega (arith, le)) ∙ e)
      (lt_or_le colour MOST_COLOURS);
  begins = λ cell side sides x lt. absurd (omega (arith, lt));
}

pub beginning_at-begins-requires : goal.beginning_at-begins-requires
beginning_at-begins-requires c = λ side x lt at.
    let none : CellSides = record { sides = []; asked_at = [] } in
    let w = c.requires.sides in
    in_table w.0 c.args.table.now w.2 c.loop-cell.cell side (get_or c.args.table.now c.loop-cell.cell none) x (slice_get-get_or c.args.table.now c.loop-cell.cell none c.loop-cell-test.true) at lt

pub loop-cell-preserved : goal.loop-cell-preserved
loop-cell-preserved c =
    let none : CellSides = record { sides = []; asked_at = [] } in
    let table = c.args.table.now in
    let i = c.loop-cell.cell in
    let there = slice_get-get_or table i none c.loop-cell-test.true in
    record {
      long = c.put.ensures.long ∙ c.loop-cell.invariant.long;
      own = λ colour le. c.put.ensures.others colour (inl (omega (arith, le))) ∙ c.loop-cell.invariant.own colour le;
      begins = one_cell_begins table i c.beginning_at-begins.result c.loop-cell.asks.items c.put.new.asks.items c.put.ensures.others c.put.ensures.colours c.loop-cell.invariant.begins
          (λ side of x lt stands at. c.beginning_at-begins.ensures side x lt (subst (λ (s : CellSides). slice_get s.sides side ≡ Some x) (inside (sym stands ∙ there)) at));
    }

pub returns : goal.returns
returns c = λ p puzzle are.
    let end = c.loop-cell-test.false in
    asking_none p c.args.table.now c.loop-cell.asks.items puzzle are c.loop-cell.invariant.long c.loop-cell.invariant.own
    (λ cell side of x there at lt. let within = slice_get_within c.args.table.now cell of there in c.loop-cell.invariant.begins cell side of x (omega (arith, within, end)) there at lt)
