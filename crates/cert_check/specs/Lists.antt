-- What is found of a list.
use Rattle.std.specs.Prelude.{◌≡◌, ◌<◌, ℕ, List, Option, Some, MatchOption, slice_get}

-- Each member has the property, which may speak of its number.
abbrev pub AreAll : {X : Type 0} → (ℕ → X → Type 0) → List X → Type 0
AreAll {X} P xs = (number : ℕ) (x : X) → slice_get xs number ≡ Some x → P number x

-- The member with this number has this fault, and those before it have the property.
pub record IsFirstBad {X F : Type 0} (P : ℕ → X → Type 0) (Fails : ℕ → X → F → Type 0) (xs : List X) (number : ℕ)
    (fault : F) : Type 0 where
  pub occurs : (x : X) × (slice_get xs number ≡ Some x) × Fails number x fault
  pub before : (earlier : ℕ) (x : X) → earlier < number → slice_get xs earlier ≡ Some x → P earlier x

-- What is said of the members: that each has the property, or the first that hasn't, with its fault.
abbrev pub TellsOfAll : {X F : Type 0} → (ℕ → X → Type 0) → (ℕ → X → F → Type 0) → List X → Option (ℕ × F) → Type 0
TellsOfAll {X} {F} P Fails xs said = MatchOption said (AreAll P xs) (λ r. IsFirstBad P Fails xs r.0 r.1)
