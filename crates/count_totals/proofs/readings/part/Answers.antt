use Rattle.std.proofs.Common.{◌≡◌, ◌∙◌, ◌≤◌, ◌++◌, ◌∷◌, List, ℕ, codes, decimal, arith, ap, ap₂, sym, true}
use Rattle.std.proofs.lemmas.List.{append_cancel_left}
use Rattle.text_words.proofs.WordLemmas.{has_no}
use Rattle.count_totals.specs.Lines.{IsInRange, part_words}
use Rattle.count_totals.specs.declared.lines.CountedPart.{CountedPart}
use Rattle.count_totals.specs.declared.lines.Line.TheVariants.{Part}
use Rattle.count_totals.proofs.ReadingLemmas.{fraction_is, fraction_lacks, joined, part_words-is, parted, unparted}
use Rattle.count_totals.proofs.readings.part.Goals.{then-number_in-eq0-via-then-number_in-eq0, then-number_in-eq0-via-else-number_in-eq0+then-number_in-parts, then-number_in-eq0-via-else-number_in-eq0+else-number_in-parts+then-parts-from}
use Rattle.count_totals.proofs.readings.part.Goals as goal

abbrev fraction : CountedPart → List ℕ
fraction part = decimal part.number ++ 47 ∷ decimal part.parts

abbrev behind : CountedPart → List ℕ
behind part = codes "arrangements " ++ decimal part.count

words : (part : CountedPart) → part_words part ≡ fraction part ++ 32 ∷ behind part
words part = part_words-is part.number part.parts part.count

lacks : (part : CountedPart) → IsInRange (Part part) → has_no 32 (fraction part) ≡ true
lacks part fits = fraction_lacks part.number part.parts (omega (arith, fits.1, fits.2)) (omega (arith, fits.2))

pub returns-in_err-word : goal.returns-in_err-word
returns-in_err-word c = rw c.from_residual.ensures (λ part fits is. unparted 32 c.args.text.now (fraction part) (behind part) (lacks part fits) c.in_err-word.ensures (is ∙ words part))

pub returns-in_err-number_in : goal.returns-in_err-number_in
returns-in_err-number_in c =
    rw c.from_residual-in_err-number_in.ensures (λ part fits is.
    let found = parted 32 c.args.text.now c.in_ok-word.word.now c.in_ok-word.rest.now (fraction part) (behind part) (lacks part fits) c.in_ok-word.ensures (is ∙ words part) in
    c.in_err-number_in.ensures part.number part.parts (omega (arith, fits.1, fits.2)) (omega (arith, fits.2)) found.0)

pub returns-then-number_in-eq0 : goal.returns-then-number_in-eq0
returns-then-number_in-eq0 c = λ part fits is.
    let found = parted 32 c.args.text.now c.in_ok-word.word.now c.in_ok-word.rest.now (fraction part) (behind part) (lacks part fits) c.in_ok-word.ensures (is ∙ words part) in
    let two = c.in_ok-number_in.ensures in
    let same = fraction_is c.in_ok-word.word.now c.in_ok-number_in.number_in c.in_ok-number_in.parts part.number part.parts two.0 two.1 (omega (arith, fits.1, fits.2)) (omega (arith, fits.2)) two.2 found.0 in
    elim c.then-number_in-eq0.branch [
      | then-number_in-eq0-via-then-number_in-eq0 w ↦ omega (arith, w.if-number_in-eq0.true, same.0, fits.0)
      | then-number_in-eq0-via-else-number_in-eq0+then-number_in-parts w ↦ omega (arith, w.if-number_in-parts.true, same.0, same.1, fits.1)
      | then-number_in-eq0-via-else-number_in-eq0+else-number_in-parts+then-parts-from w ↦ let from = w.from.ensures in omega (arith, w.if-parts-from.true, from, same.1, fits.2)
    ]

pub returns-in_err-count : goal.returns-in_err-count
returns-in_err-count c =
    rw c.from_residual-in_err-count.ensures (λ part fits is.
    let found = parted 32 c.args.text.now c.in_ok-word.word.now c.in_ok-word.rest.now (fraction part) (behind part) (lacks part fits) c.in_ok-word.ensures (is ∙ words part) in
    c.in_err-count.ensures (decimal part.count) found.1)

pub returns-in_err-number : goal.returns-in_err-number
returns-in_err-number c =
    rw c.from_residual-in_err-number.ensures (λ part fits is.
    let found = parted 32 c.args.text.now c.in_ok-word.word.now c.in_ok-word.rest.now (fraction part) (behind part) (lacks part fits) c.in_ok-word.ensures (is ∙ words part) in
    c.in_err-number.ensures part.count (omega (arith, fits.3)) (append_cancel_left (codes "arrangements ") c.in_ok-count.count.now (decimal part.count) (sym c.in_ok-count.ensures ∙ found.1)))

some_number : (n : ℕ) → (n ≡ 0 → ⊥) → 1 ≤ n
some_number n some = omega (arith, some)

pub returns : goal.returns
returns c =
    let two = c.in_ok-number_in.ensures in
    let count = c.in_ok-number.ensures in
    let cut = joined 32 c.args.text.now c.in_ok-word.word.now c.in_ok-word.rest.now c.in_ok-word.ensures in
    let rest : c.in_ok-word.rest.now ≡ codes "arrangements " ++ decimal c.in_ok-number.field-0 = c.in_ok-count.ensures ∙ ap (λ (d : List ℕ). codes "arrangements " ++ d) count.1 in
    let made = part_words-is c.in_ok-number_in.number_in c.in_ok-number_in.parts c.in_ok-number.field-0 in
    ((some_number c.in_ok-number_in.number_in c.if-number_in-eq0.false, c.if-number_in-parts.false, omega (arith, c.if-parts-from.false, c.from.ensures), omega (arith, count.0)), cut ∙ ap₂ (λ (first second : List ℕ). first ++ 32 ∷ second) two.2 rest ∙ sym made)
