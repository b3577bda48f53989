use Rattle.std.proofs.Common.{◌≡◌, ◌-◌, ◌≤◌, All, IfOk, vec_len, vec_capacity}
use Rattle.crossbeam_deque.specs.Injected.{injector_view, IsInjectorPassOf}
use Rattle.steal_crew.specs.Tickets.{Source}
use Rattle.giving_crew.specs.LiveWorkers.{IsAtEnd, BelongsToSome, Brings}
use Rattle.giving_crew.proofs.gathering.collect.Given as goal

abbrev pub invariant-loop-worker : goal.invariant-loop-worker
invariant-loop-worker g l = record {
  pass : IsInjectorPassOf l.queue l.pass;
  all : (work : _) (source : Source) → All (λ t. IfOk t (IsAtEnd l.queue source (g.W.LiveWork.gives work))) l.fn.ended.items
      → All (λ t. IfOk t (IsAtEnd l.queue source (g.W.LiveWork.gives work))) l.ended.items
      × Brings source (BelongsToSome (g.W.LiveWork.gives work source)) (injector_view l.initial.pass)
      (injector_view l.pass) (vec_len l.fn.ended - vec_len l.ended) l.seats.items l.others.items;
  len : vec_len l.ended ≤ vec_len l.fn.ended;
  seats_room : vec_capacity l.seats ≡ vec_capacity l.initial.seats;
  others_room : vec_capacity l.others ≡ vec_capacity l.initial.others;
}

abbrev pub decreases-loop-worker : goal.decreases-loop-worker
decreases-loop-worker g l = vec_len l.ended
