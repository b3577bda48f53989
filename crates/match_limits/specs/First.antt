-- The first of what may occur.
use Rattle.std.specs.Prelude.{◌≡◌, ◌≤◌, ℕ}

-- the least number with a property
pub record IsLeast (P : ℕ → Type 0) (n : ℕ) : Type 0 where
  pub holds : P n
  pub least : (m : ℕ) → P m → n ≤ m

-- the least pair with a property, by the first number, then by the second
pub record IsLeastPair (P : ℕ → ℕ → Type 0) (n : ℕ × ℕ) : Type 0 where
  pub holds : P n.0 n.1
  pub first : (a b : ℕ) → P a b → n.0 ≤ a
  pub second : (a b : ℕ) → P a b → n.0 ≡ a → n.1 ≤ b

-- three numbers, in the order of their weight
pub record Rank : Type 0 where
  pub first : ℕ
  pub second : ℕ
  pub third : ℕ

-- the rank of one number, of two, of three
abbrev pub rank_by : ℕ → Rank
rank_by n = record { first = n; second = 0; third = 0 }

abbrev pub rank_by_two : (n m : ℕ) → Rank
rank_by_two n m = record { first = n; second = m; third = 0 }

abbrev pub rank_by_three : (n m k : ℕ) → Rank
rank_by_three n m k = record { first = n; second = m; third = k }

-- The one does not come after the other.
pub record AtMost (a b : Rank) : Type 0 where
  pub first : a.first ≤ b.first
  pub second : a.first ≡ b.first → a.second ≤ b.second
  pub third : a.first ≡ b.first → a.second ≡ b.second → a.third ≤ b.third

-- what occurs and does not come after anything else that does
pub record IsFirst {F : Type 0} (rank : F → Rank) (Occurs : F → Type 0) (f : F) : Type 0 where
  pub occurs : Occurs f
  pub first : (g : F) → Occurs g → AtMost (rank f) (rank g)
