use Rattle.std.proofs.Common.{arith, sym, ◌∙◌}
use Rattle.show_reasons.proofs.ReasonLemmas.{none_of_greater}
use Rattle.show_reasons.proofs.colours.inner_reason.Goals as goal

pub returns : goal.returns
returns c =
    let mate = c.mate-mate.ensures.mate in
    none_of_greater c.args.puzzle.now c.args.colour c.args.left c.requires.left (λ own. c.if-mate-colour.false (mate ∙ own)) (λ lt. omega (arith, mate, lt, c.if-colour-mate.false))

pub returns-then-mate-colour : goal.returns-then-mate-colour
returns-then-mate-colour c = c.odd_reason.ensures c.args.puzzle.now c.requires.inside c.requires.left (sym c.mate-mate.ensures.mate ∙ c.if-mate-colour.true)
