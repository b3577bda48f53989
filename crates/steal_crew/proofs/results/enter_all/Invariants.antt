use Rattle.std.proofs.Common.{◌≡◌, ◌+◌, ℕ, All, length, vec_len}
use Rattle.crew_machine.specs.Counts.{total, times}
use Rattle.steal_crew.specs.Results.{Entered, AreDone, filled}
use Rattle.steal_crew.proofs.results.enter_all.Given as goal

abbrev pub invariant-loop-done : goal.invariant-loop-done
invariant-loop-done g l = record {
  belong : (work : _) → All (λ done. AreDone (g.W.Work.gives work) done.items) l.fn.brought.items → Entered (g.W.Work.gives work) l.initial.slots.items
      → All (λ done. AreDone (g.W.Work.gives work) done.items) l.done-iterator.rest.items × Entered (g.W.Work.gives work) l.slots.items;
  slots_len : vec_len l.slots ≡ vec_len l.initial.slots;
  tallies : (x : ℕ) → total (λ t. times x t.items) l.tallies.items + filled x l.initial.slots.items ≡ filled x l.slots.items;
  len : vec_len l.tallies + length l.done-iterator.rest.items ≡ length l.fn.brought.items;
}
