use Rattle.std.proofs.Common.{◌≡◌, ◌<◌, ◌≤◌, ℕ, vec_len, vec_capacity, slice_index_or}
use Rattle.steal_crew.specs.Results.{Entered, filled}
use Rattle.steal_crew.specs.Tickets.{Source}
use Rattle.giving_crew.specs.LiveWorkers.{BelongsToSome}
use Rattle.giving_crew.proofs.publishing.take_results.Given as goal

abbrev pub invariant-loop-place : goal.invariant-loop-place
invariant-loop-place g l = record {
  len : vec_len l.slots ≡ vec_len l.initial.slots;
  filled : (x : ℕ) → l.place ≤ x → x < vec_len l.slots → 0 < filled x l.slots.items;
  results_len : vec_len l.results ≡ l.place;
  first : (d : g.row.W-R.Denot) → slice_index_or l.results.items 0 d ≡ l.fn.first;
  belong : (work : _) (source : Source) → Entered (BelongsToSome (g.W.LiveWork.gives work source)) l.initial.slots.items
      → Entered (BelongsToSome (g.W.LiveWork.gives work source)) l.slots.items
      × ((n : ℕ) (d : g.row.W-R.Denot) → 0 < n → n < l.place
      → BelongsToSome (g.W.LiveWork.gives work source) n (slice_index_or l.results.items n d));
  room : vec_capacity l.results ≡ vec_capacity l.initial.results;
}
