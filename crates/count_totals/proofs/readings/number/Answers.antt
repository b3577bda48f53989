use Rattle.std.proofs.Common.{◌≡◌, ◌∙◌, ◌<◌, ◌^◌, Ok, Bool, decimal, arith, ap, sym, true, false, not}
use Rattle.std.specs.Str.{bytes_eq}
use Rattle.std.proofs.lemmas.Slice.Eq.{bytes_eq-Decides}
use Rattle.count_totals.proofs.ReadingLemmas.{number_is_text, parsed_is}
use Rattle.count_totals.proofs.readings.number.Goals.{then-number-most-via-then-number-most, then-number-most-via-else-number-most+then-ne}
use Rattle.count_totals.proofs.readings.number.Goals as goal

not_true : {b : Bool} → true ≡ not b → b ≡ true → ⊥
not_true {b} differs equal = let both : true ≡ false = differs ∙ ap not equal in absurd cc

pub returns-in_default : goal.returns-in_default
returns-in_default c = λ n le is.
    let lt : n < 2 ^ 64 = omega (arith, c.ranges.most.fits) in
    c.in_default.ensures.cases.0 (number_is_text n c.args.text.now lt is)

pub returns-in_default-parse : goal.returns-in_default-parse
returns-in_default-parse c = λ n le is.
    let lt : n < 2 ^ 64 = omega (arith, c.ranges.most.fits) in
    let parsed : c.parse.result ≡ Ok n = parsed_is n c.args.text.now c.in-Ok.digits.now c.parse.result lt is c.in-Ok.ensures.cases.0 c.parse.ensures.value.0 in
    cc

pub returns-then-number-most : goal.returns-then-number-most
returns-then-number-most c = λ n le is.
    let lt : n < 2 ^ 64 = omega (arith, c.ranges.most.fits) in
    let parsed : c.parse.result ≡ Ok n = parsed_is n c.args.text.now c.in-Ok.digits.now c.parse.result lt is c.in-Ok.ensures.cases.0 c.parse.ensures.value.0 in
    let same : c.in-Ok-parse.number ≡ n = cc in
    elim c.then-number-most.branch [
      | then-number-most-via-then-number-most w ↦ let above = w.if-number-most.true in omega (arith, above, same)
      | then-number-most-via-else-number-most+then-ne w ↦
          let format = w.format.ensures.text in
          let digits : w.as_bytes.result.now ≡ c.args.text.now = w.as_bytes.ensures.value ∙ format ∙ ap decimal same ∙ sym is in
          let equal : bytes_eq w.as_bytes.result.now c.args.text.now ≡ true = (bytes_eq-Decides w.as_bytes.result.now c.args.text.now).1 digits in
          let differs : true ≡ not (bytes_eq w.as_bytes.result.now c.args.text.now) = w.if-ne.ensures in
          not_true differs equal
    ]
