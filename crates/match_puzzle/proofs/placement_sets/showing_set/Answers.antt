use Rattle.std.proofs.Common.{◌≢◌, [], map, slice_index_or, subst, sym}
use Rattle.match_limits.specs.declared.TheConstants.{MOST_COLOURS}
use Rattle.match_board.specs.Tile.{word}
use Rattle.match_puzzle.specs.PlacementSets.{Shows}
use Rattle.match_puzzle.proofs.Words.{word_at}
use Rattle.match_puzzle.proofs.PlacementSetLemmas.{one_group_more}
use Rattle.match_puzzle.proofs.placement_sets.showing_set.Goals as goal

pub loop-number-preserved : goal.loop-number-preserved
loop-number-preserved c =
    let words = map word c.args.tiles.now in
    let i = c.loop-number.number in
    let same = word_at c.args.tiles.now i c.index-tiles-number.result c.loop-number-test.true c.index-tiles-number.is in
    one_group_more (λ tile turn. c.args.asked ≢ MOST_COLOURS → Shows (slice_index_or words tile []) c.args.asked c.args.side turn) i c.turns_as_asked.result c.loop-number.set c.put_group.new.self c.loop-number.invariant c.put_group.ensures
    (λ k lt. let turns = c.turns_as_asked.ensures.turns k lt in (λ one some. subst (λ w. Shows w c.args.asked c.args.side k) (sym same) (turns.0 one some), λ shows. turns.1 (λ some. subst (λ w. Shows w c.args.asked c.args.side k) same (shows some))))
