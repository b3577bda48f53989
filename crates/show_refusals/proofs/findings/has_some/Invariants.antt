use Rattle.std.proofs.Common.{List, Contains, take}
use Rattle.match_puzzle.specs.declared.placements.Placement.{Placement}
use Rattle.show_refusals.proofs.findings.has_some.Given as goal

-- None of those before this one is in the set.
abbrev pub invariant-loop-arrangement : goal.invariant-loop-arrangement
invariant-loop-arrangement g l = (a : List Placement) → Contains (take l.arrangement-index l.arrangements) a → Contains l.set.keys a → ⊥
