use Rattle.std.proofs.Common.{◌≡◌, ◌+◌, ◌<◌, ℕ, vec_len}
use Rattle.crew_machine.specs.Counts.{times}
use Rattle.steal_crew.specs.Results.{done_numbers, Entered, filled}
use Rattle.steal_crew.specs.Tickets.{Source}
use Rattle.giving_crew.specs.LiveWorkers.{AreDoneBy, BelongsToSome}
use Rattle.giving_crew.proofs.publishing.enter.Given as goal

abbrev pub invariant-loop-number : goal.invariant-loop-number
invariant-loop-number g l = record {
  belong : (work : _) (source : Source) → AreDoneBy (g.W.LiveWork.gives work source) l.fn.done.items
      → Entered (BelongsToSome (g.W.LiveWork.gives work source)) l.initial.slots.items
      → AreDoneBy (g.W.LiveWork.gives work source) l.done.items
      × Entered (BelongsToSome (g.W.LiveWork.gives work source)) l.slots.items;
  len : vec_len l.slots ≡ vec_len l.initial.slots;
  filled : (x : ℕ) → x < vec_len l.initial.slots
      → 0 < filled x l.initial.slots.items + times x (done_numbers l.fn.done.items)
      → 0 < filled x l.slots.items + times x (done_numbers l.done.items);
}

abbrev pub decreases-loop-number : goal.decreases-loop-number
decreases-loop-number g l = vec_len l.done
