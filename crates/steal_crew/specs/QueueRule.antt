-- The rule of a crew's queue.
use Rattle.std.specs.Prelude.{◌≡◌, ℕ, ◌+◌, ◌<◌, List, [], ◌∷◌, length}
use mathlib.Core.Option.{some}
use lib.ListN.{get_elem?}
use Rattle.std.specs.List.{AllByRecursion}
use Rattle.match_limits.specs.declared.TheConstants.{MOST_WORKERS}
use Rattle.steal_crew.specs.declared.queues.View.{View}
use Rattle.crew_machine.specs.Counts.{total, times}

-- the parts of a queue: one for each worker that there may be, and one that its owner keeps
abbrev pub part_count : ℕ
part_count = MOST_WORKERS + 1

-- what a pass knows: how many of the queue's parts it has, a number that all that waits is below, and what was dealt
-- and what was taken by it, in order
abbrev pub view_with : (parts below : ℕ) (dealt taken : List ℕ) → View
view_with parts below dealt taken = record { parts = parts; below = below; dealt = dealt; taken = taken }

-- each number is below all later ones
abbrev pub Rises : List ℕ → Type 0
Rises [] = Unit {0}
Rises (x ∷ xs) = AllByRecursion (λ y. x < y) xs × Rises xs

-- What was dealt is what was taken and what waits, each number as often; what waits rises, and is above all that was
-- taken.
pub record Kept (waiting : List ℕ) (views : List View) : Type 0 where
  pub parts : total (λ v. v.parts) views ≡ part_count
  pub counts : (x : ℕ)
      → total (λ v. times x v.dealt) views ≡ total (λ v. times x v.taken) views + times x waiting
  pub lengths : total (λ v. length v.dealt) views ≡ total (λ v. length v.taken) views + length waiting
  pub idle : (port : ℕ) (v : View) → get_elem? views port ≡ some v → v.parts ≡ 0 → (v.dealt ≡ []) × (v.taken ≡ [])
  pub limits : (port : ℕ) (v : View) → get_elem? views port ≡ some v → 0 < v.parts
      → AllByRecursion (λ x. x < v.below) waiting
  pub rises : Rises waiting
  pub above : (port : ℕ) (v : View) → get_elem? views port ≡ some v
      → AllByRecursion (λ x. AllByRecursion (λ y. y < x) v.taken) waiting
