use Rattle.std.proofs.Common.{vec_len}
use Rattle.steal_crew.specs.Tickets.{source_of}
use Rattle.steal_crew.proofs.TicketLemmas.{Gathered}
use Rattle.steal_crew.proofs.tickets.seats.Tickets.join_all.Given as goal

abbrev pub invariant-loop-seats : goal.invariant-loop-seats
invariant-loop-seats l = Gathered (source_of l.fn.self) l.seat l.seats.items l.fn.seats.items

abbrev pub decreases-loop-seats : goal.decreases-loop-seats
decreases-loop-seats l = vec_len l.seats
