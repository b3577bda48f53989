use Rattle.std.proofs.Common.{arith}
use Rattle.std.proofs.lemmas.Grind.{common_steps}
use Rattle.text_words.proofs.FrontLemmas.{end_at_word}
use Rattle.text_words.proofs.scans.Scan.end_of_line.Goals as goal

pub returns-in-Some : goal.returns-in-Some
returns-in-Some c =
    let at_word = end_at_word c.args.self.now c.in-Some.field-0.now (grind (arith, common_steps)) in
    grind (arith, common_steps)
