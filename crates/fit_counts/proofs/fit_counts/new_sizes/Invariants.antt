use Rattle.std.proofs.Common.{◌≡◌, length}
use Rattle.fit_counts.proofs.NewSizeLemmas.{AreEntriesBelow}
use Rattle.fit_counts.proofs.fit_counts.new_sizes.Given as goal

abbrev pub invariant-loop-place : goal.invariant-loop-place
invariant-loop-place l = record {
  long : length l.sizes.items ≡ l.place;
  entries : AreEntriesBelow l.partial.puzzle l.partial.placed l.sizes.items l.place;
}
