use Rattle.std.proofs.Common.{refl, inl}
use Rattle.xcc_form.proofs.EdgeLemmas.{none_from, greater_from, one_from}
use Rattle.xcc_form.proofs.edges.edge_from.Goals as goal

pub returns-in_err-other_cell : goal.returns-in_err-other_cell
returns-in_err-other_cell c = rw c.from_residual.ensures (none_from c.args.puzzle.now.board c.args.cell c.args.side c.in_err-other_cell.ensures.only)

pub returns-then-cell-other_cell : goal.returns-then-cell-other_cell
returns-then-cell-other_cell c =
    let met = c.in_ok-other_cell.ensures in (
      (met.found, inl c.if-cell-other_cell.true),
      refl,
      refl,
      λ f is e k. one_from c.args.puzzle.now.board c.args.cell c.args.side c.in_ok-other_cell.other_cell c.in_ok-other_cell.other_side met.only _ f refl refl refl refl is e k,
    )

pub returns-else-cell-other_cell : goal.returns-else-cell-other_cell
returns-else-cell-other_cell c =
    let met = c.in_ok-other_cell.ensures in
    greater_from c.args.puzzle.now.board c.args.cell c.args.side c.in_ok-other_cell.other_cell c.in_ok-other_cell.other_side met.only c.if-cell-other_cell.false
