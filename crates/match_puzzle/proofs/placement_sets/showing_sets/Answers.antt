use Rattle.std.proofs.Common.{◌/◌, ◌%◌, ◌∷◌, [], map, length, length-append, slice_index_or, subst, sym, ap, ◌∙◌, arith, below_more}
use Rattle.std.proofs.lemmas.List.{get_or_append_left, get_or_push}
use Rattle.match_board.specs.Tile.{word}
use Rattle.match_puzzle.specs.PlacementSets.{AreShowing}
use Rattle.match_puzzle.proofs.placement_sets.showing_sets.Goals as goal

pub loop-place-preserved : goal.loop-place-preserved
loop-place-preserved c =
    let words = map word c.args.tiles.now in
    let place = c.loop-place.place in
    let sets = c.loop-place.sets.items in
    let set = c.fixed.result in
    let grown = c.in_ok-push.ensures.items in
    let long = c.loop-place.invariant.long in
    record {
      long = ap length grown ∙ (let more = length-append sets (set ∷ []) in omega (arith, more, long));
      is = below_more (λ k. AreShowing words (k / 4) (k % 4) (slice_index_or c.push.new.self.items k [])) place
          (λ k lt. subst (AreShowing words (k / 4) (k % 4)) (sym (ap (λ xs. slice_index_or xs k []) grown ∙ get_or_append_left sets (set ∷ []) [] k (omega (arith, lt, long)))) (c.loop-place.invariant.is k lt))
          (subst (AreShowing words (place / 4) (place % 4)) (sym (ap (λ xs. slice_index_or xs place []) grown ∙ get_or_push sets set [] place long)) (subst (AreShowing words (place / 4) (place % 4)) (sym c.fixed.ensures) c.showing_set.ensures));
    }
