use Rattle.std.proofs.Common.{◌≡◌, ◌+◌, ◌<◌, ℕ, vec_len}
use Rattle.crew_machine.specs.Counts.{times}
use Rattle.steal_crew.specs.Results.{AreDone, Entered}
use Rattle.steal_crew.specs.Results.{filled, done_numbers}
use Rattle.steal_crew.proofs.results.enter_first.Given as goal

abbrev pub invariant-loop-number : goal.invariant-loop-number
invariant-loop-number g l = record {
  belong : (work : _) → AreDone (g.W.Work.gives work) l.fn.done.items → Entered (g.W.Work.gives work) l.initial.slots.items → AreDone (g.W.Work.gives work) l.done.items × Entered (g.W.Work.gives work) l.slots.items;
  len : vec_len l.slots ≡ vec_len l.initial.slots;
  entered : (x : ℕ) → x < vec_len l.initial.slots → 0 < filled x l.initial.slots.items + times x (done_numbers l.fn.done.items) → 0 < filled x l.slots.items + times x (done_numbers l.done.items);
  tally : (x : ℕ) → times x l.tally.items + filled x l.initial.slots.items ≡ filled x l.slots.items;
}

abbrev pub decreases-loop-number : goal.decreases-loop-number
decreases-loop-number g l = vec_len l.done
