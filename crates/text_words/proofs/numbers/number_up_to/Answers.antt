use Rattle.std.proofs.Common.{◌<◌, length, get_or, arith, rules}
use Rattle.std.proofs.lemmas.Grind.{common_steps}
use Rattle.std.proofs.lemmas.Str.{digit_value_digit}
use Rattle.std.proofs.lemmas.Int.Digits.{digits_value_more}
use Rattle.text_words.proofs.numbers.number_up_to.Goals as goal

pub loop-byte-preserved : goal.loop-byte-preserved
loop-byte-preserved c =
    let lt : c.loop-byte.byte-index < length c.args.word.now = omega arith in
    let value = digit_value_digit (get_or c.args.word.now c.loop-byte.byte-index 0) (search rules) in
    let more = digits_value_more 10 c.args.word.now c.loop-byte.byte-index lt in
    record {
      digits = grind (arith, common_steps);
      so_far = rw more (omega (arith, value, c.min-value.ensures, c.from.ensures, c.from-in-loop-byte.ensures, c.loop-byte.invariant.so_far));
    }
