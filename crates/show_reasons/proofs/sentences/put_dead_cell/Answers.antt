use Rattle.std.proofs.Common.{◌++◌, ap, ◌∙◌}
use Rattle.std.specs.Prelude.{codes}
use Rattle.show_reasons.specs.Sentences.{counted}
use Rattle.show_reasons.proofs.TextLemmas.{two_pieces}
use Rattle.show_reasons.proofs.sentences.put_dead_cell.Goals as goal

pub returns : goal.returns
returns c =
    let text = c.args.text.now.items in
    two_pieces text (counted (codes "no arrangement: nothing fits at cell ") c.args.cell) _
    (c.in_ok-put_counted.ensures ∙ ap (λ n. text ++ counted (codes "no arrangement: nothing fits at cell ") n) c.from.ensures)
    c.in_ok-extend_from_slice.ensures.items
