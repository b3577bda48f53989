use Rattle.std.proofs.Common.{◌≡◌, ◌≤◌, ◌*◌, ℕ, List, Some, map, take, sum}
use Rattle.count_totals.proofs.counts.sum_of.Given as goal

abbrev pub invariant-loop-place : goal.invariant-loop-place
invariant-loop-place l =
    (numbers : List ℕ) × (take l.place l.counts ≡ map Some numbers) × (l.total ≡ sum numbers)
    × (l.total ≤ l.place * 18446744073709551615)
