use Rattle.std.proofs.Common.{◌-◌, get_or, arith}
use Rattle.text_words.proofs.WordEndLemmas.{one_digit, two_digits}
use Rattle.text_words.proofs.numbers.short_digits.Goals as goal

pub returns-in-48-to-57-clause-digits : goal.returns-in-48-to-57-clause-digits
returns-in-48-to-57-clause-digits c = one_digit c.args.bytes.now (get_or c.args.bytes.now 0 0 - 48) (omega arith) (omega arith) (omega arith) (omega arith)

pub returns-in-49-to-57-clause-digits : goal.returns-in-49-to-57-clause-digits
returns-in-49-to-57-clause-digits c =
    two_digits c.args.bytes.now (get_or c.args.bytes.now 0 0 - 48) (get_or c.args.bytes.now 1 0 - 48) (omega arith) (omega arith) (omega arith) (omega arith) (omega arith) (omega arith) (omega arith)
