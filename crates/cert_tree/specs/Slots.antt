-- Places for numbered pieces, while they are assembled.
use Rattle.std.specs.Prelude.{◌≡◌, ◌≤◌, ◌<◌, ℕ, List, Option, Some, None, Contains, min, nat_lt, if◌then◌else◌}
use Rattle.std.specs.Prelude.{slice_get, slice_set}
use Rattle.cert_tree.specs.declared.faults.AssembleFault.{AssembleFault}
use Rattle.cert_tree.specs.declared.faults.AssembleFault.TheVariants.{Stranger, Double, Missing, Memory}
use Rattle.cert_tree.specs.Assembly.{how_often, TellsLeast}

-- the number, or the other one if that is less
abbrev pub lesser_of : Option ℕ → ℕ → ℕ
lesser_of None n = n
lesser_of (Some other) n = min other n

-- the least number at or past the count: `least`, which was found before, or this one
abbrev pub stranger_of : ℕ → Option ℕ → ℕ → Option ℕ
stranger_of count least n = if nat_lt n count then least else Some (lesser_of least n)

module _ {X : Type 0} (number_of : X → ℕ) where
  -- A place has a piece with its number, if there is one.
  abbrev pub IsFilled : List X → ℕ → Option X → Type 0
  IsFilled pieces n None = how_often number_of pieces n ≡ 0
  IsFilled pieces n (Some piece) = Contains pieces piece × (number_of piece ≡ n)

  abbrev pub AreFilled : List X → List (Option X) → Type 0
  AreFilled pieces slots = (n : ℕ) (slot : Option X) → slice_get slots n ≡ Some slot → IsFilled pieces n slot

  -- The places have what the pieces are, and the number is the least that more than one of them has.
  pub record IsEntered (pieces : List X) (slots : List (Option X)) (double : Option ℕ) : Type 0 where
    pub filled : AreFilled pieces slots
    pub least : TellsLeast (λ n. 1 < how_often number_of pieces n) double

  -- The piece was put into its place.
  abbrev pub IsPut : List (Option X) → List (Option X) → X → Type 0
  IsPut before after piece =
      (slice_get before (number_of piece) ≡ Some None) × (after ≡ slice_set before (number_of piece) (Some piece))

  -- There was another one in its place.
  abbrev pub IsTaken : List (Option X) → List (Option X) → X → Type 0
  IsTaken before after piece =
      (other : X) × (slice_get before (number_of piece) ≡ Some (Some other)) × (after ≡ before)

-- The fault is that of the first empty place. Of want of memory nothing is said.
abbrev pub IsFirstEmpty : {X : Type 0} → List (Option X) → AssembleFault → Type 0
IsFirstEmpty slots Memory = Unit {0}
IsFirstEmpty slots (Missing n) = (slice_get slots n ≡ Some None) × ((m : ℕ) → slice_get slots m ≡ Some None → n ≤ m)
IsFirstEmpty slots (Stranger n) = ⊥
IsFirstEmpty slots (Double n) = ⊥
