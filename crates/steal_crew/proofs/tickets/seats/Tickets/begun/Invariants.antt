use Rattle.std.proofs.Common.{◌≡◌, ◌+◌, [], ◌∷◌, ◌-◌, All, vec_len, vec_capacity}
use Rattle.steal_crew.specs.NumberSource.{seat_view_with}
use Rattle.steal_crew.specs.Tickets.{IsFresh}
use Rattle.steal_crew.proofs.tickets.seats.Tickets.begun.Given as goal

abbrev pub invariant-loop : goal.invariant-loop
invariant-loop l = record {
  fresh : All (IsFresh (l.table.shared.table_id, l.limit, l.seats)) l.list.items;
  count : vec_len l.list + 1 ≡ l.counter;
  room : vec_capacity l.list ≡ vec_capacity l.initial.list;
  same : l.first.table_id ≡ l.table.shared.table_id;
  first : l.first.me ≡ (seat_view_with l.limit l.seats (l.seats - vec_len l.list) 0 (0 ∷ []), []);
}
