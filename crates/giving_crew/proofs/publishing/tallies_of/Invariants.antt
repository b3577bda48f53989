use Rattle.std.proofs.Common.{◌≡◌, ◌+◌, ◌∷◌, [], ℕ, take, vec_len}
use Rattle.crew_machine.specs.Counts.{total, times}
use Rattle.steal_crew.specs.Results.{done_numbers}
use Rattle.giving_crew.proofs.publishing.tallies_of.Given as goal

abbrev pub invariant-loop-at : goal.invariant-loop-at
invariant-loop-at g l = record {
  len : vec_len l.tallies ≡ l.at + 1;
  all : (x : ℕ) → total (λ t. times x t.items) l.tallies.items
      ≡ times x (0 ∷ []) + times x (done_numbers l.own.items) + total (λ s. times x (done_numbers s.items))
      (take l.at l.others.items);
}
