use Rattle.match_puzzle.proofs.TableLemmas.{number_after_sides}
use Rattle.match_puzzle.proofs.clue_faults.number_at.Goals as goal

pub loop-passed-preserved : goal.loop-passed-preserved
loop-passed-preserved c =
    number_after_sides c.args.board.now c.loop-passed.passed c.loop-passed.count c.border_sides-count.result c.border_sides-count.ensures.few c.border_sides-count.ensures.counts c.loop-passed.invariant
