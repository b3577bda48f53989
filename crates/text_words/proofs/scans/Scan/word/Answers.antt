use Rattle.std.proofs.Common.{arith}
use Rattle.std.proofs.lemmas.Grind.{common_steps}
use Rattle.text_words.proofs.FrontLemmas.{at_fixed_word}
use Rattle.text_words.proofs.scans.Scan.word.Goals as goal

pub returns-clause-gives : goal.returns-clause-gives
returns-clause-gives c =
    let at_word = at_fixed_word c.args.wanted.now c.args.self.now c.in-Some.rest.now c.in-Some-after_word.others.now c.in-Some-after_word.ensures (grind (arith, common_steps)) in
    grind (arith, common_steps)
