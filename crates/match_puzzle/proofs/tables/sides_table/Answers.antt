use Rattle.std.proofs.Common.{◌≡◌, ◌++◌, ◌∷◌, ◌∙◌, [], List, None, Some, length, length-append, slice_get, arith, ap, sym, subst, ⊎_elim}
use Rattle.match_puzzle.specs.Puzzle.{task_by}
use Rattle.match_puzzle.specs.Tables.{IsSide, AreAskedAt}
use Rattle.match_puzzle.specs.declared.tables.Side.TheVariants.{Border}
use Rattle.match_puzzle.specs.declared.tables.CellSides.{CellSides}
use Rattle.match_puzzle.proofs.TableLemmas.{pushed_is, number_at_first, in_empty_table}
use Rattle.match_puzzle.proofs.tables.sides_table.Goals as goal

pub loop-cell-init : goal.loop-cell-init
loop-cell-init c = record {
  long = ap length c.in_ok-table.ensures.items;
  is = λ cell side sides x get. absurd (in_empty_table cell sides (subst (λ (t : List CellSides). slice_get t cell ≡ Some sides) c.in_ok-table.ensures.items get));
  outside = λ cell side sides get. absurd (in_empty_table cell sides (subst (λ (t : List CellSides). slice_get t cell ≡ Some sides) c.in_ok-table.ensures.items get));
  asked = λ cell sides get. absurd (in_empty_table cell sides (subst (λ (t : List CellSides). slice_get t cell ≡ Some sides) c.in_ok-table.ensures.items get));
  number = number_at_first c.args.board.now;
}

pub loop-cell-preserved : goal.loop-cell-preserved
loop-cell-preserved c =
    let i = c.loop-cell.cell in
    let table = c.loop-cell.table.items in
    let grown : c.push.new.self.items ≡ table ++ c.cell_sides-sides.result ∷ [] = c.in_ok-push.ensures.items in
    record {
      long = ap length grown ∙ omega (arith, length-append table (c.cell_sides-sides.result ∷ []), c.loop-cell.invariant.long);
      is = λ cell side sides x get side_in at version tiles.
          let p = task_by c.args.board.now c.args.rules.now version tiles in
          ⊎_elim
          (λ w. c.loop-cell.invariant.is cell side sides x w.1 side_in at version tiles)
          (λ w. subst (λ k. IsSide p k side x) (sym (w.0 ∙ c.loop-cell.invariant.long)) (c.cell_sides-sides.ensures.sides version tiles side x side_in (subst (λ (s : CellSides). slice_get s.sides side ≡ Some x) w.1 at)))
          (pushed_is table c.cell_sides-sides.result cell sides (subst (λ (t : List CellSides). slice_get t cell ≡ Some sides) grown get));
      outside = λ cell side sides get past few.
          ⊎_elim
          (λ w. c.loop-cell.invariant.outside cell side sides w.1 past few)
          (λ w. subst (λ (s : CellSides). slice_get s.sides side ≡ Some (Border None)) (sym w.1) (c.cell_sides-sides.ensures.outside side past few))
          (pushed_is table c.cell_sides-sides.result cell sides (subst (λ (t : List CellSides). slice_get t cell ≡ Some sides) grown get));
      asked = λ cell sides get.
          ⊎_elim
          (λ w. c.loop-cell.invariant.asked cell sides w.1)
          (λ w. subst (λ (s : CellSides). AreAskedAt s.sides s.asked_at) (sym w.1) c.cell_sides-sides.ensures.asked)
          (pushed_is table c.cell_sides-sides.result cell sides (subst (λ (t : List CellSides). slice_get t cell ≡ Some sides) grown get));
      number = c.cell_sides-sides.ensures.number;
    }

pub returns : goal.returns
returns c = λ version tiles. record {
  long = omega (arith, c.loop-cell.invariant.long, c.loop-cell-test.false, c.loop-cell.auto.cell-end, c.cells-cell-end.ensures.count);
  is = λ cell side sides x get side_in at. c.loop-cell.invariant.is cell side sides x get side_in at version tiles;
  outside = c.loop-cell.invariant.outside;
  asked = c.loop-cell.invariant.asked;
}
