use Rattle.std.proofs.Common.{◌≡◌, drop}
use Rattle.crew_machine.specs.Machine.{stands}
use Rattle.crew_machine.proofs.steps.has.Given as goal

abbrev pub invariant-loop-y : goal.invariant-loop-y
invariant-loop-y l = stands l.x (drop l.y-index l.xs.items) ≡ stands l.x l.xs.items
