use Rattle.std.proofs.Common.{◌≡◌, ◌<◌, All, vec_len}
use Rattle.steal_crew.specs.Tickets.{source_of, seats_of, seat_source}
use Rattle.test_crews.proofs.tickets.assert_turns.Given as goal

abbrev pub invariant-loop-turn : goal.invariant-loop-turn
invariant-loop-turn g l = record {
  ours : All (λ s. seat_source s ≡ source_of l.tickets) l.seats.items;
  all : vec_len l.seats ≡ seats_of l.tickets;
  some : 0 < vec_len l.seats;
}
