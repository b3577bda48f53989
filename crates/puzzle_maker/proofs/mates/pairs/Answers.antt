use Rattle.puzzle_maker.proofs.MateLemmas.{one_more}
use Rattle.puzzle_maker.proofs.mates.pairs.Goals as goal

pub loop-colour-preserved : goal.loop-colour-preserved
loop-colour-preserved c =
    let is = c.mate_beside.ensures in
    rw c.in_ok-push.ensures.items
    (one_more c.args.alone c.loop-colour.colour c.mate_beside.result c.loop-colour.mates.items c.loop-colour.invariant is.own is.first is.second)
