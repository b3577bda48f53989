use Rattle.std.proofs.Common.{◌<◌, ℕ, IsTrue, false, get_or}
use Rattle.cert_text.proofs.crew_limits.are_all.Given as goal

abbrev pub invariant-loop-number : goal.invariant-loop-number
invariant-loop-number l = (n : ℕ) → n < l.number → IsTrue (get_or l.told n false)
