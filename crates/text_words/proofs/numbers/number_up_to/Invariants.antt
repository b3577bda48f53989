use Rattle.std.proofs.Common.{◌≡◌, min, take, drop}
use Rattle.std.specs.Str.{all_ascii_digits}
use Rattle.std.specs.Str.Parse.{digits_value}
use Rattle.text_words.proofs.numbers.number_up_to.Given as goal

abbrev pub invariant-loop-byte : goal.invariant-loop-byte
invariant-loop-byte l = record {
  digits : all_ascii_digits (drop l.byte-index l.word) ≡ all_ascii_digits l.word;
  so_far : l.value ≡ min (digits_value 10 (take l.byte-index l.word)) l.ceiling;
}
