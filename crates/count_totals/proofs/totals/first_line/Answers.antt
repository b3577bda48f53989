use Rattle.std.proofs.Common.{◌∙◌, ◌∷◌, ◌++◌, List, ℕ, arith, ap, sym, refl}
use Rattle.text_words.proofs.WordLemmas.{cut_parts}
use Rattle.count_totals.proofs.TextLemmas.{endless, whole_before}
use Rattle.count_totals.proofs.totals.first_line.Goals as goal

pub returns-in_default-clause-fault : goal.returns-in_default-clause-fault
returns-in_default-clause-fault c = (refl, endless 10 c.args.text.now c.in_default.ensures.parts)

pub returns-in-Some-read_line-clause-line : goal.returns-in-Some-read_line-clause-line
returns-in-Some-read_line-clause-line c =
    let read = c.in-Some-read_line.ensures in
    let shorter = c.in-Some.ensures.shorter in
    record {
      is = cut_parts 10 c.args.text.now (c.in-Some.line.now, c.in-Some.after.now) (sym c.in-Some.ensures.parts) ∙ ap (λ (t : List ℕ). t ++ 10 ∷ c.in-Some.after.now) read.is;
      in_range = read.in_range;
      shorter = omega (arith, shorter);
    }

pub returns-in-None-clause-fault : goal.returns-in-None-clause-fault
returns-in-None-clause-fault c =
    let cut = sym c.in-Some.ensures.parts in
    (refl, c.in-Some.line.now, c.in-Some.after.now, cut_parts 10 c.args.text.now (c.in-Some.line.now, c.in-Some.after.now) cut, whole_before 10 c.args.text.now c.in-Some.line.now c.in-Some.after.now cut, c.in-None.ensures)
