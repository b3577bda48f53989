use Rattle.std.proofs.Common.{◌≡◌, ◌+◌, ◌-◌, All, vec_len, vec_capacity}
use Rattle.crossbeam_deque.specs.Injected.{injector_view, IsInjectorPassOf}
use Rattle.steal_crew.specs.Tickets.{source_of, IsFresh}
use Rattle.steal_crew.specs.Jobs.{job_view_with}
use Rattle.giving_crew.specs.LiveWorkers.{IsAtStart}
use Rattle.giving_crew.proofs.crews.workers_at.Given as goal

abbrev pub invariant-loop-seat : goal.invariant-loop-seat
invariant-loop-seat g l = let start = injector_view l.initial.pass in record {
  pass : IsInjectorPassOf l.queue l.pass;
  view_is : injector_view l.pass ≡ job_view_with (start.parts - vec_len l.list) start.dealt start.taken;
  fresh : All (IsFresh (source_of l.source)) l.seats.items;
  each : All (IsAtStart l.queue (source_of l.source)) l.list.items;
  len : vec_len l.list + vec_len l.seats ≡ vec_len l.fn.seats;
  room : vec_capacity l.list ≡ vec_capacity l.initial.list;
}

abbrev pub decreases-loop-seat : goal.decreases-loop-seat
decreases-loop-seat g l = vec_len l.seats
