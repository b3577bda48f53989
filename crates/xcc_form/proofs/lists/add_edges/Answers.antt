use Rattle.std.proofs.Common.{◌≡◌, ◌+◌, ◌++◌, ◌∷◌, [], ◌∙◌, sym, Some, Vec, Global, slice_get, ap, arith, get_or, subst}
use Rattle.std.proofs.lemmas.Option.{slice_get-get_or}
use Rattle.xcc_form.specs.Options.{colour_given}
use Rattle.xcc_form.specs.declared.edges.Edge.{Edge}
use Rattle.xcc_form.specs.declared.edges.SharedEdge.{SharedEdge}
use Rattle.xcc_form.proofs.ShownLemmas.{AreAdded, shared_at, side_of_in_range, none_more, one_more, all_added}
use Rattle.xcc_form.proofs.lists.add_edges.Goals as goal
use Rattle.xcc_form.proofs.lists.add_edges.Goals.{in-Some+in_ok-push, in_default}

pub colour-shown-requires-clause-side : goal.colour-shown-requires-clause-side
colour-shown-requires-clause-side c =
    let s = c.args.puzzle.now.board in
    let here = slice_get-get_or c.args.shared.now c.loop-edge.edge-index _ c.loop-edge-test.true in
    side_of_in_range s _ c.args.pair.cell c.in-Some.side (shared_at s c.args.shared.now c.loop-edge.edge-index _ c.requires.shared here) c.in-Some.ensures

pub loop-edge-preserved : goal.loop-edge-preserved
loop-edge-preserved c =
    let p = c.args.puzzle.now in
    let shared = c.args.shared.now in
    let k = c.loop-edge.edge-index in
    let e : SharedEdge = get_or shared k (record { cell = 0; side = 0; other_cell = 0; other_side = 0 }) in
    let here : slice_get shared k ≡ Some e = slice_get-get_or shared k (record { cell = 0; side = 0; other_cell = 0; other_side = 0 }) c.loop-edge-test.true in
    let is_edge = shared_at p.board shared k e c.requires.shared here in
    let old = c.args.edges.now.items in
    let new = c.loop-edge.edges.items in
    let after = c.match-side_at.edges.items in
    record {
      item = omega (arith, c.loop-edge.invariant.item);
      added =
          elim c.match-side_at.branch [
            | in-Some+in_ok-push w ↦
                let y : Edge = record { item = c.loop-edge.item; colour = w.given-colour.result } in
                let pushed : after ≡ new ++ y ∷ [] = ap (λ (v : Vec Edge Global). v.items) w.edges-is ∙ w.in_ok-push.ensures.items in
                one_more p shared c.args.pair k e here old new after w.in-Some.side y is_edge w.in-Some.ensures c.loop-edge.invariant.item (w.given-colour.ensures.given ∙ ap (colour_given p e c.args.pair.cell) w.colour-shown.ensures.colour) pushed c.loop-edge.invariant.added
            | in_default w ↦
                let same : after ≡ new = ap (λ (v : Vec Edge Global). v.items) w.edges-is in
                subst (λ es. AreAdded p shared c.args.pair (k + 1) old es) (sym same) (none_more p shared c.args.pair k e here old new w.in_default.ensures c.loop-edge.invariant.added)
          ];
    }

pub returns : goal.returns
returns c = all_added c.args.puzzle.now c.args.shared.now c.args.pair c.args.edges.now.items c.loop-edge.edges.items c.loop-edge.edge-index c.loop-edge-test.false c.loop-edge.auto.edge-index-end c.loop-edge.invariant.added
