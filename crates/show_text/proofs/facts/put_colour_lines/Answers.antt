use Rattle.std.proofs.Common.{◌++◌, ◌+◌, ◌-◌, ap, sym, ◌∙◌, append_assoc}
use Rattle.std.specs.List.{flat_map, range_with_len}
use Rattle.show_text.specs.Facts.{colour_line}
use Rattle.show_text.proofs.FactLemmas.{lines_next}
use Rattle.show_text.proofs.facts.put_colour_lines.Goals as goal

pub loop-colour-preserved : goal.loop-colour-preserved
loop-colour-preserved c =
    let line = colour_line c.args.puzzle.now c.args.outer in
    let colour = c.loop-colour.colour in
    let text = c.loop-colour.text.items in
    let rest = flat_map line (range_with_len (colour + 1) (c.args.colours - (colour + 1))) in
    ap (λ xs. xs ++ rest) c.in_ok-put_colour_line.ensures
    ∙ append_assoc text (line colour) rest
    ∙ ap (λ xs. text ++ xs) (sym (lines_next line colour c.args.colours c.loop-colour-test.true))
    ∙ c.loop-colour.invariant
