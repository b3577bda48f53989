use Rattle.std.proofs.Common.{◌≡◌, ◌<◌, ◌++◌, [], All, List, ap, append-nil, append_assoc, arith, drop, length, refl, subst, sym, ◌∙◌}
use Rattle.std.proofs.lemmas.List.{nil_from_length, take-append-drop}
use Rattle.std.proofs.lemmas.List.Elements.{All-drop, All-take}
use Rattle.match_puzzle.specs.declared.placements.Placement.{Placement}
use Rattle.show_pictures.specs.Cuts.{AreTilePages, IsTilePage}
use Rattle.show_pictures.specs.declared.cut_plans.CutPlan.{CutPlan}
use Rattle.show_pictures.proofs.CutLemmas.{no_pages, page_more}
use Rattle.show_pictures.proofs.cut_pages.tile_pages.Goals as goal

pub loop-rest-init : goal.loop-rest-init
loop-rest-init c = record {
  shown = ([], refl, subst (AreTilePages c.args.plan.size c.args.puzzle.now []) (sym c.new-text.ensures.items) (no_pages c.args.plan.size c.args.puzzle.now));
  tiles = c.requires.tiles;
  few = c.requires.few;
}

pub tile_page-requires-clause-tiles : goal.tile_page-requires-clause-tiles
tile_page-requires-clause-tiles c =
    let p = c.args.puzzle.now in
    subst (λ (xs : List Placement). All (λ x. x.tile < length p.words) xs) (sym c.split_at.ensures.front)
    (All-take (λ (x : Placement). x.tile < length p.words) _ c.loop-rest.rest.now c.loop-rest.invariant.tiles)

pub loop-rest-preserved : goal.loop-rest-preserved
loop-rest-preserved c =
    let p = c.args.puzzle.now in
    let size = c.args.plan.size in
    let shown = c.loop-rest.invariant.shown in
    let done = shown.0 in
    let rest = c.loop-rest.rest.now in
    let here = c.split_at.result.0.now in
    let behind = c.split_at.result.1.now in
    let page = c.in_ok-page.page.items in
    let parted : rest ≡ here ++ behind =
    sym (take-append-drop c.min.result rest) ∙ ap (λ xs. xs ++ drop c.min.result rest) (sym c.split_at.ensures.front) ∙ ap (λ xs. here ++ xs) (sym c.split_at.ensures.back) in
    let is = subst (λ (q : CutPlan). IsTilePage q.size p (record { tiles = here; text = page })) c.new-layout.ensures c.in_ok-page.ensures in
    let pages = subst (AreTilePages size p (done ++ here)) (sym (c.in_ok-extend_from_slice.ensures.items ∙ ap (λ t. c.loop-rest.text.items ++ t) c.deref.ensures.value))
    (page_more size p done here c.loop-rest.text.items page shown.2 is) in
    record {
      shown = (done ++ here, shown.1 ∙ ap (λ xs. done ++ xs) parted ∙ sym (append_assoc done here behind), pages);
      tiles = subst (λ (xs : List Placement). All (λ x. x.tile < length p.words) xs) (sym c.split_at.ensures.back)
          (All-drop (λ (x : Placement). x.tile < length p.words) _ rest c.loop-rest.invariant.tiles);
      few = let few = c.loop-rest.invariant.few in omega (arith, c.split_at.ensures.back_len, few);
    }

pub returns : goal.returns
returns c =
    let shown = c.loop-rest.invariant.shown in
    let none : c.loop-rest.rest.now ≡ [] = nil_from_length c.loop-rest.rest.now (grind (arith, c.is_empty.ensures, c.loop-rest-test.false)) in
    let all = shown.1 ∙ ap (λ xs. shown.0 ++ xs) none ∙ append-nil shown.0 in
    subst (λ (xs : List Placement). AreTilePages c.args.plan.size c.args.puzzle.now xs c.loop-rest.text.items) (sym all) shown.2
