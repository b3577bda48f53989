use Rattle.std.proofs.Common.{arith}
use Rattle.match_puzzle.proofs.tables.named_colour_count.Goals as goal

pub returns-clause-least : goal.returns-clause-least
returns-clause-least c = λ other of_border of_mates of_clues. omega (arith, c.colour_count.ensures.least other of_border, c.clue_colour_count.ensures.least other of_clues)

pub returns-clause-clues : goal.returns-clause-clues
returns-clause-clues c = λ cell side colour asks.
    let few = c.clue_colour_count.ensures.above cell side colour asks in
    let more = c.max-2.ensures in
    omega (arith, few, more)
