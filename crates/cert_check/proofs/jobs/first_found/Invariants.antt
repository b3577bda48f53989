use Rattle.std.proofs.Common.{◌≡◌, ◌<◌, ℕ, Some, None, slice_get}
use Rattle.cert_check.specs.Jobs.{Finding, fault_of}
use Rattle.cert_check.proofs.jobs.first_found.Given as goal

-- There is no fault before this one.
abbrev pub invariant-loop-number : goal.invariant-loop-number
invariant-loop-number l = (earlier : ℕ) (finding : Finding) → earlier < l.number → slice_get l.results earlier ≡ Some finding → fault_of finding ≡ None
