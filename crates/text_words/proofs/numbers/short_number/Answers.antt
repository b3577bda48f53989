use Rattle.std.proofs.Common.{arith}
use Rattle.text_words.proofs.WordEndLemmas.{number_front}
use Rattle.text_words.proofs.numbers.short_number.Goals as goal

pub returns : goal.returns
returns c = rw c.from.ensures (number_front c.args.line.now c.in_ok-number.after.now c.in_ok-number.number c.in_ok-number.ensures.digits (omega arith) (omega arith))
