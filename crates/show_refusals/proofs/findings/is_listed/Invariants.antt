use Rattle.std.proofs.Common.{◌≡◌, List, Some, Contains, map, take}
use Rattle.match_puzzle.specs.declared.placements.Placement.{Placement}
use Rattle.show_refusals.proofs.findings.is_listed.Given as goal

-- None of those before this one is placed.
abbrev pub invariant-loop-arrangement : goal.invariant-loop-arrangement
invariant-loop-arrangement l = (a : List Placement) → Contains (take l.arrangement-index l.listed) a → l.partial.placed ≡ map Some a → ⊥
