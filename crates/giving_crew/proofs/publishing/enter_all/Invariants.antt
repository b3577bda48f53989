use Rattle.std.proofs.Common.{◌≡◌, ◌+◌, ◌<◌, ℕ, All, vec_len}
use Rattle.crew_machine.specs.Counts.{total, times}
use Rattle.steal_crew.specs.Results.{done_numbers, Entered, filled}
use Rattle.steal_crew.specs.Tickets.{Source}
use Rattle.giving_crew.specs.LiveWorkers.{AreDoneBy, BelongsToSome}
use Rattle.giving_crew.proofs.publishing.enter_all.Given as goal

abbrev pub invariant-loop-done : goal.invariant-loop-done
invariant-loop-done g l = record {
  belong : (work : _) (source : Source) → All (λ s. AreDoneBy (g.W.LiveWork.gives work source) s.items) l.fn.others.items
      → Entered (BelongsToSome (g.W.LiveWork.gives work source)) l.initial.slots.items
      → All (λ s. AreDoneBy (g.W.LiveWork.gives work source) s.items) l.others.items
      × Entered (BelongsToSome (g.W.LiveWork.gives work source)) l.slots.items;
  len : vec_len l.slots ≡ vec_len l.initial.slots;
  filled : (x : ℕ) → x < vec_len l.initial.slots
      → 0 < filled x l.initial.slots.items + total (λ s. times x (done_numbers s.items)) l.fn.others.items
      → 0 < filled x l.slots.items + total (λ s. times x (done_numbers s.items)) l.others.items;
}

abbrev pub decreases-loop-done : goal.decreases-loop-done
decreases-loop-done g l = vec_len l.others
