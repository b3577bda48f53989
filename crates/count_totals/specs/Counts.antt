-- Counts of parts, each at its place.
use Rattle.std.specs.Prelude.{◌≡◌, ◌≤◌, ◌<◌, ◌+◌, ◌-◌, ℕ, List, Option, Some, None, length, map, slice_get, sum}
use Rattle.count_totals.specs.declared.faults.PartsFault.{PartsFault}
use Rattle.count_totals.specs.declared.faults.PartsFault.TheVariants as faults

-- The fault names the first part that has no count, by its number from 1, and how many parts there are.
abbrev pub IsFirstWithout : (counts : List (Option ℕ)) → PartsFault → Type 0
IsFirstWithout counts (faults.Missing number parts) =
    (parts ≡ length counts) × (1 ≤ number) × (slice_get counts (number - 1) ≡ Some None)
    × ((earlier : ℕ) → earlier + 1 < number → (count : ℕ) × (slice_get counts earlier ≡ Some (Some count)))
IsFirstWithout counts fault = ⊥

-- Each part has a count, and this is their sum.
abbrev pub HaveSum : (counts : List (Option ℕ)) (total : ℕ) → Type 0
HaveSum counts total = (numbers : List ℕ) × (counts ≡ map Some numbers) × (total ≡ sum numbers)
