use Rattle.std.proofs.Common.{◌<◌, ◌/◌, ◌%◌, ◌∷◌, ◌∙◌, [], map, length, length-append, slice_index_or, below_more, arith, sym, ap, subst}
use Rattle.std.proofs.lemmas.List.{get_or_append_left, get_or_push, length-map}
use Rattle.match_board.specs.Tile.{word}
use Rattle.match_puzzle.specs.PlacementSets.{AreColoursAfter}
use Rattle.match_puzzle.proofs.Words.{word_at}
use Rattle.match_puzzle.proofs.placement_sets.shown_table.Goals as goal

pub loop-number-preserved : goal.loop-number-preserved
loop-number-preserved c =
    let words = map word c.args.tiles.now in
    let place = c.loop-number.number in
    let table = c.loop-number.table.items in
    let colours = c.colours_after.result in
    let grown = c.in_ok-push.ensures.items in
    let long = c.loop-number.invariant.long in
    let tile_in : place / 4 < length c.args.tiles.now = (let lt = c.loop-number-test.true in omega (arith, lt)) in
    let same = word_at c.args.tiles.now (place / 4) c.index-tiles-number.result tile_in c.index-tiles-number.is in
    record {
      long = ap length grown ∙ (let more = length-append table (colours ∷ []) in omega (arith, more, long));
      is = below_more (λ k. AreColoursAfter (slice_index_or words (k / 4) []) (k % 4) (slice_index_or c.push.new.self.items k [])) place
          (λ k lt. subst (AreColoursAfter (slice_index_or words (k / 4) []) (k % 4)) (sym (ap (λ xs. slice_index_or xs k []) grown ∙ get_or_append_left table (colours ∷ []) [] k (omega (arith, lt, long)))) (c.loop-number.invariant.is k lt))
          (subst (AreColoursAfter (slice_index_or words (place / 4) []) (place % 4)) (sym (ap (λ xs. slice_index_or xs place []) grown ∙ get_or_push table colours [] place long)) (subst (λ w. AreColoursAfter w (place % 4) colours) (sym same) c.colours_after.ensures));
    }

pub returns : goal.returns
returns c =
    let words = map word c.args.tiles.now in
    let many = length-map c.args.tiles.now word in
    let long = c.loop-number.invariant.long in
    let past = c.loop-number-test.false in
    let end = c.loop-number.auto.number-end in
    record {
      long = omega (arith, many, long, past, end);
      is = λ place lt. c.loop-number.invariant.is place (omega (arith, lt, long));
    }
