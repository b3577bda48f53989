use Rattle.std.proofs.Common.{◌≡◌, ◌+◌, ◌<◌, ℕ, vec_len, vec_capacity}
use Rattle.crew_machine.specs.Counts.{times, once_below}
use Rattle.steal_crew.specs.Results.{Entered, Belongs}
use Rattle.steal_crew.specs.Results.{filled}
use Rattle.steal_crew.proofs.results.settle_rest.Given as goal

abbrev pub invariant-loop-place : goal.invariant-loop-place
invariant-loop-place g l = record {
  slots : Entered (g.W.Work.gives l.work) l.slots.items;
  len : vec_len l.slots ≡ vec_len l.initial.slots;
  results : Belongs (g.W.Work.gives l.work) l.results.items;
  results_len : vec_len l.results ≡ l.place;
  room : vec_capacity l.results ≡ vec_capacity l.initial.results;
  gone : (x : ℕ) → x < l.place → filled x l.slots.items ≡ 0;
  tally : (x : ℕ) → times x l.tally.items + filled x l.fn.slots.items ≡ times x l.initial.tally.items + once_below x l.place + filled x l.slots.items;
}
