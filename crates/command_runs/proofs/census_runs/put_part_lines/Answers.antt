use Rattle.std.proofs.Common.{◌≡◌, ◌∙◌, ◌+◌, ◌++◌, ◌∷◌, [], ℕ, List, arith, ap, drop, get_or, subst, sym}
use Rattle.count_totals.specs.Lines.{line_text, text_of}
use Rattle.count_totals.specs.declared.lines.CountedPart.{CountedPart}
use Rattle.count_totals.specs.declared.lines.Line.{Line}
use Rattle.count_totals.specs.declared.lines.Line.TheVariants as lines
use Rattle.command_words.specs.Parts.{parts_with}
use Rattle.command_runs.specs.Census.{part_lines}
use Rattle.command_runs.proofs.CensusLemmas.{line_then, part_line_next}
use Rattle.command_runs.proofs.census_runs.put_part_lines.Goals as goal

abbrev part_as : (number parts count : ℕ) → CountedPart
part_as number parts count = record { number = number; parts = parts; count = count }

pub loop-count-preserved : goal.loop-count-preserved
loop-count-preserved c =
    let parts = parts_with c.args.parts.now in
    let counts = c.args.counts.now in
    let number = c.loop-count.number in
    let next = c.loop-count.count-index in
    let before = c.loop-count.text.items in
    let part = lines.Part (part_as number parts (get_or counts next 0)) in
    let put = subst (λ all. c.put_line.new.text.items ≡ before ++ (line_text (lines.Part (part_as number all (get_or counts next 0))) ++ 10 ∷ [])) c.count-all.ensures.parts c.in_ok-put_line.ensures in
    record {
      number = (let at = c.loop-count.invariant.number in omega (arith, at));
      text = line_then part (part_lines parts (number + 1) (drop (next + 1) counts)) before c.put_line.new.text.items put
          ∙ ap (λ (told : List Line). before ++ text_of told) (sym (part_line_next parts number counts next c.loop-count-test.true))
          ∙ c.loop-count.invariant.text;
    }
