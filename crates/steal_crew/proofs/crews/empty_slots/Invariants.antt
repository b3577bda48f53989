use Rattle.std.proofs.Common.{◌≡◌, ℕ, vec_len, vec_capacity}
use Rattle.steal_crew.specs.Results.{filled}
use Rattle.steal_crew.proofs.crews.empty_slots.Given as goal

abbrev pub invariant-loop : goal.invariant-loop
invariant-loop g l = record {
  len : vec_len l.slots ≡ l.counter;
  none : (x : ℕ) → filled x l.slots.items ≡ 0;
  room : vec_capacity l.slots ≡ vec_capacity l.initial.slots;
}
