use Rattle.std.proofs.Common.{sym, ◌∙◌}
use Rattle.std.proofs.lemmas.Bool.{false≢true}
use Rattle.show_reasons.proofs.ReasonLemmas.{no_reason, not_short}
use Rattle.show_reasons.proofs.colours.colour_reason.Goals as goal

pub returns-else-inside : goal.returns-else-inside
returns-else-inside c =
    let sides = c.of-asked.result in
    no_reason c.args.puzzle.now c.args.colour
    (not_short c.args.puzzle.now c.args.colour sides.asked sides.shown c.of-asked.ensures.asked c.of-asked.ensures.shown c.if-shown-asked.false)
    (λ left h. false≢true (sym c.if-inside.false ∙ c.requires.inside.1 h.inside))
    (λ left mate mate_left h. false≢true (sym c.if-inside.false ∙ c.requires.inside.1 h.inside))
