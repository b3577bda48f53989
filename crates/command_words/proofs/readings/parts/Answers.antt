use Rattle.std.proofs.Common.{◌≡◌, arith, sym, subst}
use Rattle.command_words.specs.Parts.{SpellsRange, first_in, last_in, text_before}
use Rattle.command_words.proofs.readings.parts.Goals as goal

-- the numbers that parts have fit their type
pub returns-in_default-first_and_last : goal.returns-in_default-first_and_last
returns-in_default-first_and_last c = λ parts is.
    let few = is.few in
    let cut : c.in-Some.numbers.now ≡ text_before 47 c.args.text.now = (c.in-Some.ensures.byte (omega arith) (λ w o f. f)).0 in
    c.in_default-first_and_last.ensures (first_in parts) (last_in parts) (omega arith) (omega arith)
    (subst (λ text. SpellsRange text (first_in parts) (last_in parts)) (sym cut) is.numbers)
