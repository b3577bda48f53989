use Rattle.std.proofs.Common.{◌∷◌, ◌∙◌, ◌<◌, ◌≡◌, [], ℕ, length, length-append, slice_index, slice_index_or, below_more, arith, ap}
use Rattle.std.proofs.lemmas.List.{get_or_append_left, get_or_push}
use Rattle.match_board.specs.Mates.{mate_in}
use Rattle.match_puzzle.proofs.placement_sets.mates_table.Goals as goal

pub loop-colours-preserved : goal.loop-colours-preserved
loop-colours-preserved c =
    let mates = c.args.mates.now in
    let place = c.loop-colours.colours-index in
    let table = c.loop-colours.table.items in
    let colours = c.mates_of.result in
    let grown = c.in_ok-push.ensures.items in
    let long = c.loop-colours.invariant.long in
    let new = c.push.new.self.items in
    record {
      long = ap length grown ∙ (let more = length-append table (colours ∷ []) in omega (arith, more, long));
      is = below_more (λ k. (side : ℕ) → side < 4 → slice_index (slice_index_or new k []) side ≡ mate_in mates (slice_index (slice_index_or c.args.shown.now k []) side)) place
          (λ k lt side side_in. ap (λ cs. slice_index cs side) (ap (λ xs. slice_index_or xs k []) grown ∙ get_or_append_left table (colours ∷ []) [] k (omega (arith, lt, long))) ∙ c.loop-colours.invariant.is k lt side side_in)
          (λ side side_in. ap (λ cs. slice_index cs side) (ap (λ xs. slice_index_or xs place []) grown ∙ get_or_push table colours [] place long) ∙ c.mates_of.ensures side side_in);
    }
