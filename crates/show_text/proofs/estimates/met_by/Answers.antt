use Rattle.match_board.proofs.Places.{Meets-turned, StandsAt-in_range}
use Rattle.match_puzzle.proofs.ArrangementLemmas.{side_in_range}
use Rattle.show_text.proofs.estimates.met_by.Goals as goal

pub rule-requires-clause-cell : goal.rule-requires-clause-cell
rule-requires-clause-cell c = StandsAt-in_range c.in-Some.ensures.found.there

pub rule-requires-clause-side : goal.rule-requires-clause-side
rule-requires-clause-side c = side_in_range (Meets-turned c.in-Some.ensures.found)
