use Rattle.std.proofs.Common.{◌≡◌}
use Rattle.crew_machine.specs.Machine.{copies, nobody}
use Rattle.crew_machine.proofs.calls.idle_workers.Given as goal

abbrev pub invariant-loop : goal.invariant-loop
invariant-loop l = l.workers.items ≡ copies l.counter nobody
