use Rattle.std.proofs.Common.{◌≡◌, []}
use Rattle.crew_machine.specs.Machine.{copies}
use Rattle.crew_machine.proofs.calls.empty_queues.Given as goal

abbrev pub invariant-loop : goal.invariant-loop
invariant-loop l = l.queues.items ≡ copies l.counter []
