-- The rule of a number source, and what a draw tells.
use Rattle.std.specs.Prelude.{◌≡◌, ℕ, ◌+◌, ◌<◌, ◌≤◌, ◌^◌, min, nat_lt, List, [], ◌∷◌, ◌++◌, length, slice_index}
use Rattle.std.specs.Prelude.{All, MatchBool}
use mathlib.Core.Option.{some}
use lib.ListN.{get_elem?}
use Rattle.atomic_table.specs.Table.{State, Me, Step}
use Rattle.match_limits.specs.declared.TheConstants.{MOST_WORKERS}
use Rattle.steal_crew.specs.declared.tickets.rules.SeatView.{SeatView}
use Rattle.crew_machine.specs.Counts.{total, times, once_below}

-- what a seat knows: the limit, how many seats there are, how many parts of the source it has, how many of them found
-- the limit, and what was drawn by them, in order
abbrev pub seat_view_with : (limit seats parts marks : ℕ) (drawn : List ℕ) → SeatView
seat_view_with limit seats parts marks drawn =
    record { limit = limit; seats = seats; parts = parts; marks = marks; drawn = drawn }

-- what holds of one seat, where the next number is n
pub record IsFair (limit seats n : ℕ) (v : SeatView) : Type 0 where
  pub told : 0 < v.parts → (v.limit ≡ limit) × (v.seats ≡ seats)
  pub one_mark : v.marks ≤ v.parts
  pub out : 0 < v.marks → limit ≤ n
  pub spent : v.parts ≡ 0 → v.drawn ≡ []

-- The lists of all seats are together the numbers below n and below the limit, each once; and n is past the limit by no
-- more than the number of marks.
pub record Drawn (limit seats n : ℕ) (views : List SeatView) : Type 0 where
  pub parts : total (λ v. v.parts) views ≡ seats
  pub numbers : (x : ℕ) → total (λ v. times x v.drawn) views ≡ once_below x (min n limit)
  pub word : n ≤ limit + total (λ v. v.marks) views
  pub fair : (id : ℕ) (v : SeatView) → get_elem? views id ≡ some v → IsFair limit seats n v

-- the rule of the source's table, which has one word, by the limit and the count of seats
pub record Holds (key : ℕ × ℕ) (s : State (Unit {0}) SeatView) : Type 0 where
  pub small : (key.0 < 2 ^ 32) × (key.1 ≤ MOST_WORKERS + 1)
  pub one_word : length s.words ≡ 1
  pub rule : Drawn key.0 key.1 (slice_index s.words 0) s.views

-- A draw that finds a number below the limit puts it at the end of the seat's list, and it is above all that stood
-- there; any other draw marks that the seat found the limit. The first draw of all finds 0.
abbrev pub IsDraw : Step (Unit {0}) → Me (Unit {0}) SeatView → ℕ → Me (Unit {0}) SeatView → Type 0
IsDraw s v found w = (w.1 ≡ v.1) × (v.0.parts ≡ v.0.seats → v.0.drawn ≡ [] → 0 < v.0.limit → found ≡ 0)
    × MatchBool (nat_lt found v.0.limit)
    ((w.0 ≡ seat_view_with v.0.limit v.0.seats v.0.parts v.0.marks (v.0.drawn ++ found ∷ []))
    × All (λ x. x < found) v.0.drawn)
    (w.0 ≡ seat_view_with v.0.limit v.0.seats v.0.parts 1 v.0.drawn)

-- A look changes nothing. A seat that has every part of the source learns by it that what it drew are the numbers below
-- the one found and below the limit, each once; and where it was marked, that the one found is at least the limit.
abbrev pub IsLook : Step (Unit {0}) → Me (Unit {0}) SeatView → ℕ → Me (Unit {0}) SeatView → Type 0
IsLook s v found w = (w ≡ v) × (0 < v.0.parts → v.0.parts ≡ v.0.seats
    → ((x : ℕ) → times x v.0.drawn ≡ once_below x (min found v.0.limit)) × (0 < v.0.marks → v.0.limit ≤ found))
