use Rattle.std.proofs.Common.{◌≡◌, ℕ, vec_len}
use Rattle.steal_crew.specs.Queues.{Places, taken_by}
use Rattle.steal_crew.proofs.taking.take_any.Given as goal

abbrev pub invariant-loop-step : goal.invariant-loop-step
invariant-loop-step l =
    Places (vec_len l.handles) l.count l.handles.items l.places.items × ((x : ℕ) → taken_by x l.places.items ≡ taken_by x l.initial.places.items)
