use Rattle.std.proofs.Common.{arith}
use Rattle.std.proofs.lemmas.Grind.{common_steps}
use Rattle.text_words.proofs.WordEndLemmas.{has_first}
use Rattle.text_words.proofs.scans.Scan.has_word.Goals as goal

pub returns : goal.returns
returns c = grind (arith, common_steps, has_first)
