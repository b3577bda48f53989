use Rattle.std.proofs.Common.{◌≡◌, ℕ, All, vec_len}
use Rattle.crew_machine.specs.Counts.{times}
use Rattle.steal_crew.specs.Results.{done_numbers}
use Rattle.steal_crew.specs.Queues.{Places, taken_by}
use Rattle.steal_crew.proofs.taking.work_at.Given as goal

abbrev pub invariant-loop : goal.invariant-loop
invariant-loop g l = record {
  places : Places (vec_len l.handles) l.count l.handles.items l.places.items;
  done : All (λ e. g.W.Work.gives l.work e.0 e.1) l.done.items;
  all : (x : ℕ) → times x (done_numbers l.done.items) ≡ taken_by x l.places.items;
}
