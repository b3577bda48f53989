use Rattle.std.proofs.Common.{arith}
use Rattle.match_limits.specs.declared.number_sets.TheConstants.{NUMBERS}
use Rattle.match_limits.specs.NumberSets.{joined, members}
use Rattle.match_limits.proofs.NumberSetLemmas.{no_members, places_of_zero}
use Rattle.match_limits.proofs.number_sets.NumberSet.clear.Goals as goal

pub returns-then-self-gt0 : goal.returns-then-self-gt0
unfolding joined members
returns-then-self-gt0 c = places_of_zero NUMBERS 0

pub returns-else-self-gt0 : goal.returns-else-self-gt0
returns-else-self-gt0 c =
    rw (← c.self.view_is)
    (no_members c.self.inside.words c.self.invariant.small (λ k. c.self.invariant.past k (omega (arith, c.if-self-gt0))))
