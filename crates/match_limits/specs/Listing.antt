-- All things with a property, in order.
use Rattle.std.specs.Prelude.{◌≡◌, ◌⊎◌, ◌<◌, ℕ, List, Contains, length, slice_index_or}

-- The list has just the things with the property, each before the ones after it.
pub record IsListing {X : Type 0} (Before : X → X → Type 0) (P : X → Type 0) (xs : List X) : Type 0 where
  pub only : (x : X) → Contains xs x → P x
  pub all : (x : X) → P x → Contains xs x
  pub rising : (i j : ℕ) (d : X) → i < j → j < length xs → Before (slice_index_or xs i d) (slice_index_or xs j d)

-- by the first number, then by the second
abbrev pub ComesBefore : (a b : ℕ × ℕ) → Type 0
ComesBefore a b = (a.0 < b.0) ⊎ ((a.0 ≡ b.0) × (a.1 < b.1))

-- The one's key comes before the other's.
abbrev pub ByKey : {X : Type 0} → (X → ℕ × ℕ) → X → X → Type 0
ByKey key x y = ComesBefore (key x) (key y)

-- The thing has the property, and its key comes before this one.
abbrev pub HoldsBefore : {X : Type 0} → (X → ℕ × ℕ) → (X → Type 0) → ℕ × ℕ → X → Type 0
HoldsBefore key P n x = P x × ComesBefore (key x) n
