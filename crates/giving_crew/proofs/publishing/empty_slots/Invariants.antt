use Rattle.std.proofs.Common.{◌≡◌, vec_len, vec_capacity}
use Rattle.steal_crew.specs.Results.{Entered}
use Rattle.steal_crew.specs.Tickets.{Source}
use Rattle.giving_crew.specs.LiveWorkers.{BelongsToSome}
use Rattle.giving_crew.proofs.publishing.empty_slots.Given as goal

abbrev pub invariant-loop : goal.invariant-loop
invariant-loop g l = record {
  len : vec_len l.slots ≡ l.counter;
  entered : (work : _) (source : Source) → Entered (BelongsToSome (g.W.LiveWork.gives work source)) l.slots.items;
  room : vec_capacity l.slots ≡ vec_capacity l.initial.slots;
}
