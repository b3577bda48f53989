use Rattle.std.proofs.Common.{◌≡◌, ◌++◌, ◌∷◌, [], ◌∙◌, Vec, Global, ap, arith, length, subst}
use Rattle.std.proofs.lemmas.List.{length_push}
use Rattle.match_board.specs.Board.{side_count}
use Rattle.match_limits.proofs.Listings.{listing_row}
use Rattle.xcc_form.specs.Options.{IsSharedEdge, least_place}
use Rattle.xcc_form.specs.declared.edges.SharedEdge.{SharedEdge}
use Rattle.xcc_form.proofs.EdgeLemmas.{AreEdgesBefore, edge_sides, edge_more, no_edge_more}
use Rattle.xcc_form.proofs.edges.add_edges_of.Goals as goal
use Rattle.xcc_form.proofs.edges.add_edges_of.Goals.{in-Some+in_ok-push, in_default}

pub loop-side-preserved : goal.loop-side-preserved
loop-side-preserved c =
    let s = c.args.puzzle.now.board in
    let old = c.loop-side.edges.items in
    let new = c.match-edge_from.edges.items in
    elim c.match-edge_from.branch [
      | in-Some+in_ok-push w ↦
          let e = w.in-Some.edge in
          let pushed : new ≡ old ++ e ∷ [] = ap (λ (v : Vec SharedEdge Global). v.items) w.edges-is ∙ w.in_ok-push.ensures.items in
          let found = w.in-Some.ensures in
          record {
            before = edge_more s c.args.cell c.loop-side.side old new e found.0 found.1 found.2 found.3 pushed c.loop-side.invariant.before;
            few = let longer = ap length pushed ∙ length_push old e in omega (arith, longer, c.loop-side.invariant.few);
          }
      | in_default w ↦
          let same : new ≡ old = ap (λ (v : Vec SharedEdge Global). v.items) w.edges-is in
          record {
            before = no_edge_more s c.args.cell c.loop-side.side old new w.in_default.ensures same c.loop-side.invariant.before;
            few = let as_long = ap length same in omega (arith, as_long, c.loop-side.invariant.few);
          }
    ]

pub returns-clause-edges : goal.returns-clause-edges
returns-clause-edges c =
    let s = c.args.puzzle.now.board in
    let at : c.loop-side.side ≡ side_count s = omega (arith, c.loop-side-test.false, c.sides-side-end.ensures.count, ap side_count c.board.ensures.value) in
    listing_row least_place (IsSharedEdge s) c.args.cell (side_count s) c.loop-side.edges.items (λ e is. edge_sides is)
    (subst (λ k. AreEdgesBefore s (c.args.cell, k) c.loop-side.edges.items) at c.loop-side.invariant.before)
