use Rattle.std.proofs.Common.{◌≡◌, ◌++◌, map, decimal, take}
use Rattle.text_words.specs.Spelling.{spaced}
use Rattle.match_report.proofs.tallies.put_numbers.Given as goal

abbrev pub invariant-loop-number : goal.invariant-loop-number
invariant-loop-number l = l.text.items ≡ l.fn.text.items ++ spaced (map decimal (take l.number-index l.numbers))
