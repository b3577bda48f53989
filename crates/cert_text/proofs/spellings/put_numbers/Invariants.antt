use Rattle.std.proofs.Common.{◌≡◌, ◌++◌, map, take}
use Rattle.std.specs.Fmt.{decimal}
use Rattle.text_words.specs.Spelling.{spaced}
use Rattle.cert_text.proofs.spellings.put_numbers.Given as goal

abbrev pub invariant-loop-number : goal.invariant-loop-number
invariant-loop-number l = l.text.items ≡ l.fn.text.items ++ spaced (map decimal (take l.number-index l.numbers))
