use Rattle.std.proofs.Common.{◌≡◌}
use Rattle.crossbeam_deque.specs.Handles.{view}
use Rattle.steal_crew.specs.Queues.{IsPlace}
use Rattle.steal_crew.proofs.taking.steal_from.Given as goal

abbrev pub invariant-loop : goal.invariant-loop
invariant-loop l = IsPlace l.count l.handle l.place × ((view l.place).taken ≡ (view l.initial.place).taken)
