use Rattle.match_limits.specs.declared.number_sets.TheConstants.{NUMBERS}
use Rattle.match_limits.specs.NumberSets.{joined, members}
use Rattle.match_limits.proofs.NumberSetLemmas.{places_of_zero, no_words}
use Rattle.match_limits.proofs.number_sets.NumberSet.new.Goals as goal

pub invariant_of-result : goal.invariant_of-result
invariant_of-result c = no_words

pub returns : goal.returns
unfolding joined members
returns c = places_of_zero NUMBERS 0
