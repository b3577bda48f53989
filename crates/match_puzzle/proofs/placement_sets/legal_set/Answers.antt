use Rattle.std.proofs.Common.{◌<◌, arith, slice_index}
use Rattle.match_puzzle.proofs.PlacementSetLemmas.{one_group_more, first_ones, below_count}
use Rattle.match_puzzle.proofs.placement_sets.legal_set.Goals as goal

pub put_group-requires-clause-digits : goal.put_group-requires-clause-digits
put_group-requires-clause-digits c =
    let count = slice_index c.args.turn_counts.now c.loop-tile.tile in
    let few = c.requires.turns c.loop-tile.tile 0 c.loop-tile-test.true in
    let ones = first_ones count few in omega (arith, ones.0, ones.1)

pub loop-tile-preserved : goal.loop-tile-preserved
loop-tile-preserved c =
    let counts = c.args.turn_counts.now in
    let few = c.requires.turns c.loop-tile.tile 0 c.loop-tile-test.true in
    one_group_more (λ tile turn. turn < slice_index counts tile) c.loop-tile.tile _ _ _ c.loop-tile.invariant c.put_group.ensures (λ k lt. below_count (slice_index counts c.loop-tile.tile) k few)
