use Rattle.std.proofs.Common.{arith}
use Rattle.std.proofs.lemmas.Grind.{common_steps}
use Rattle.text_words.proofs.FrontLemmas.{at_short_number}
use Rattle.text_words.proofs.scans.Scan.number.Goals as goal

pub returns-clause-gives : goal.returns-clause-gives
returns-clause-gives c =
    let at_number = at_short_number c.args.least c.args.most c.in-Some-short_number.number c.args.self.now c.in-Some.rest.now c.in-Some-short_number.others.now c.in-Some-short_number.ensures (grind (arith, common_steps)) (omega arith) (omega arith) in
    grind (arith, common_steps)
