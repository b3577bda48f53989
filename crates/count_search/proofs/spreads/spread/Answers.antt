use Rattle.std.proofs.Common.{◌∙◌}
use Rattle.count_search.proofs.spreads.spread.Goals as goal

pub loop-preserved : goal.loop-preserved
loop-preserved c =
    let i = c.loop.invariant in
    record {
      stand = λ x total t. i.stand x total (c.in_ok-spread.ensures.stand x total t);
      selections = λ x are. c.in_ok-spread.ensures.selections x (i.selections x are);
      long = c.in_ok-spread.ensures.long ∙ i.long;
    }
