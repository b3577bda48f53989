use Rattle.std.proofs.Common.{◌≡◌, ◌++◌, take}
use Rattle.steal_crew.specs.Results.{done_numbers}
use Rattle.giving_crew.proofs.publishing.with_numbers.Given as goal

abbrev pub invariant-loop-at : goal.invariant-loop-at
invariant-loop-at g l = l.tally.items ≡ l.fn.tally.items ++ done_numbers (take l.at l.done.items)
