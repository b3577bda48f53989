use Rattle.std.proofs.Common.{◌≡◌, Some, map, take}
use Rattle.show_refusals.proofs.findings.placements_on.Given as goal

-- What is placed at the cells before this one.
abbrev pub invariant-loop-cell : goal.invariant-loop-cell
invariant-loop-cell l = take l.cell l.partial.placed ≡ map Some l.placements.items
