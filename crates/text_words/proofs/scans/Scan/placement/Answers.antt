use Rattle.std.proofs.Common.{arith}
use Rattle.std.proofs.lemmas.Grind.{common_steps}
use Rattle.text_words.proofs.FrontLemmas.{at_short_placement}
use Rattle.text_words.proofs.scans.Scan.placement.Goals as goal

pub returns-clause-gives : goal.returns-clause-gives
returns-clause-gives c =
    let at_placement = at_short_placement c.args.ranges.now c.requires c.in-Some-short_placement.placement c.args.self.now c.in-Some.rest.now c.in-Some-short_placement.others.now c.in-Some-short_placement.ensures (grind (arith, common_steps)) in
    grind (arith, common_steps)
