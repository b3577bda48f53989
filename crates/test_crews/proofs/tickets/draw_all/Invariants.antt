use Rattle.std.proofs.Common.{◌≡◌}
use Rattle.steal_crew.specs.Tickets.{source_of, seat_source}
use Rattle.test_crews.proofs.tickets.draw_all.Given as goal

abbrev pub invariant-loop : goal.invariant-loop
invariant-loop l = seat_source l.seat ≡ source_of l.tickets
