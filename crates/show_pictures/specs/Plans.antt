-- Which arrangements of a list are drawn.
use Rattle.std.specs.Prelude.{◌≡◌, ◌+◌, ◌≤◌, ℕ, List, Some, drop, length, max, slice_get, take}
use Rattle.match_puzzle.specs.ArrangementFaults.{IsFirstWrong}
use Rattle.match_puzzle.specs.Puzzle.{Task}
use Rattle.match_puzzle.specs.declared.placements.Placement.{Placement}
use Rattle.show_pictures.specs.declared.plans.NotDrawn.{NotDrawn}
use Rattle.show_pictures.specs.declared.plans.NotDrawn.TheVariants.{NoArrangement, Arrangement, Memory}

-- The listed arrangement of this number is so.
abbrev pub IsListedAt : (number : ℕ) → (List Placement → Type 0) → List (List Placement) → Type 0
IsListedAt number Is listed = (a : List Placement) × (slice_get listed number ≡ Some a) × Is a

-- Which arrangements of a list are drawn: `first` of them from this number on, or fewer where the list ends before;
-- just the one of this number where `first` is 0.
abbrev pub to_be_drawn : (number first : ℕ) → List (List Placement) → List (List Placement)
to_be_drawn number first listed = take (max first 1) (drop number listed)

-- Why nothing is drawn of a list: it is too short; or one of those that are to be drawn is no arrangement of the puzzle,
-- the first of them by its number in the list; or want of memory.
abbrev pub IsNotDrawn : (number first : ℕ) → Task → List (List Placement) → NotDrawn → Type 0
IsNotDrawn number first p listed (NoArrangement at) = (at ≡ number) × (length listed ≤ number)
IsNotDrawn number first p listed (Arrangement at fault) =
    (index : ℕ) × (at ≡ number + index) × IsFirstWrong p (to_be_drawn number first listed) index fault
IsNotDrawn number first p listed Memory = Unit {0}
