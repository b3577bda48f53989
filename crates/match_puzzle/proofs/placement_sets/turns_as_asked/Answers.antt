use Rattle.std.proofs.lemmas.Nat.Bits.{bit_at_ones}
use Rattle.match_puzzle.proofs.placement_sets.turns_as_asked.Goals as goal

pub returns-then-asked-eq-ANY_COLOUR-clause-turns : goal.returns-then-asked-eq-ANY_COLOUR-clause-turns
returns-then-asked-eq-ANY_COLOUR-clause-turns c turn lt = (λ one some. absurd (some c.if-asked-eq-ANY_COLOUR.true), λ shows. bit_at_ones 4 turn lt)
