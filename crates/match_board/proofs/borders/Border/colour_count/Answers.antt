use Rattle.std.proofs.Common.{◌≡◌, ℕ, Some, slice_get, arith, refl, sym, subst}
use Rattle.match_board.specs.Borders.{rule_of, StandsInRule}
use Rattle.match_board.proofs.borders.Border.colour_count.Goals as goal
use Rattle.match_board.proofs.borders.Border.colour_count.Goals.{In-One, In-Each}

one_stands : (c : In-One) → StandsInRule (rule_of c.args.self.now) 0 c.in-One.colour
one_stands c = subst (λ b. StandsInRule (rule_of b) 0 c.in-One.colour) (sym c.in-One.is) (refl, refl)

each_stands : (c : In-Each) (place colour : ℕ) → slice_get c.in-Each.rules place ≡ Some (Some colour) → StandsInRule (rule_of c.args.self.now) place colour
each_stands c place colour e = subst (λ b. StandsInRule (rule_of b) place colour) (sym c.in-Each.is) e

pub overflow_add-result : goal.overflow_add-result
overflow_add-result c = omega (arith, c.requires 0 c.in-One.colour (one_stands (goal.at.overflow_add-result c).In-One))

pub colour_count-requires : goal.colour_count-requires
colour_count-requires c = λ place colour e. c.requires place colour (each_stands (goal.at.colour_count-requires c).In-Each place colour e)

pub returns-in-One-clause-least : goal.returns-in-One-clause-least
returns-in-One-clause-least c = λ other bound. omega (arith, bound 0 c.in-One.colour (one_stands (goal.at.returns-in-One-clause-least c).In-One))

pub returns-in-Each-clause-least : goal.returns-in-Each-clause-least
returns-in-Each-clause-least c = λ other bound. c.colour_count.ensures.least other (λ place colour e. bound place colour (each_stands (goal.at.returns-in-Each-clause-least c).In-Each place colour e))
