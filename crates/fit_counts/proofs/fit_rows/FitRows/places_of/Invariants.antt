use Rattle.std.proofs.Common.{◌<◌, ◌*◌, ◌+◌, ◌/◌, ◌%◌, [], Contains, slice_index_or}
use Rattle.match_limits.specs.Listing.{IsListing}
use Rattle.fit_counts.proofs.fit_rows.FitRows.places_of.Given as goal

abbrev pub invariant-loop-cell : goal.invariant-loop-cell
invariant-loop-cell l = IsListing ◌<◌ (λ n. (n / 4 < l.cell) × Contains (slice_index_or l.fn.self (n / 4) []) (4 * l.tile + n % 4)) l.places
