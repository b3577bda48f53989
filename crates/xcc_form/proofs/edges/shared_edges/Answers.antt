use Rattle.std.proofs.Common.{◌≡◌, ap, arith, subst}
use Rattle.match_board.specs.Board.{cell_count}
use Rattle.match_limits.proofs.Listings.{listing_all}
use Rattle.xcc_form.specs.Options.{IsSharedEdge, least_place}
use Rattle.xcc_form.proofs.EdgeLemmas.{AreEdgesBefore, edge_cells}
use Rattle.xcc_form.proofs.edges.shared_edges.Goals as goal

pub returns-clause-edges : goal.returns-clause-edges
returns-clause-edges c =
    let s = c.args.puzzle.now.board in
    let at : c.loop-cell.cell ≡ cell_count s = omega (arith, c.loop-cell-test.false, c.cells-cell-end.ensures.count, ap cell_count c.board.ensures.value) in
    listing_all least_place (IsSharedEdge s) (cell_count s) c.loop-cell.edges.items (λ e is. edge_cells is)
    (subst (λ k. AreEdgesBefore s (k, 0) c.loop-cell.edges.items) at c.loop-cell.invariant.before)
