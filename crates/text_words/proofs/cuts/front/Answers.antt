use Rattle.std.proofs.Common.{arith}
use Rattle.text_words.proofs.WordEndLemmas.{one_byte}
use Rattle.text_words.proofs.BytesLemmas.{words_of-is}
use Rattle.text_words.proofs.cuts.front.Goals as goal

pub returns-in-None : goal.returns-in-None
returns-in-None c = words_of-is c.args.line.now _ c.in-None.ensures

pub returns-in-Some : goal.returns-in-Some
returns-in-Some c = words_of-is c.args.line.now _ c.in-Some.ensures

pub returns : goal.returns
returns c = one_byte c.args.line.now (omega arith) (omega arith) (omega arith)
