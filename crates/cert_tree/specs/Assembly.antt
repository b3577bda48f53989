-- The assembly of numbered pieces. In what order they come doesn't matter.
use Rattle.std.specs.Prelude.{◌≡◌, ◌≢◌, ◌≤◌, ◌<◌, ℕ, List, Option, Some, None, Result, Ok, Err, Contains, ◌==◌, length}
use Rattle.std.specs.Prelude.{slice_get}
use Rattle.std.specs.List.{count_by}
use Rattle.std.specs.List.Sorted.{IsPermutation}
use Rattle.match_limits.specs.First.{Rank, IsLeast, IsFirst, rank_by, rank_by_two}
use Rattle.cert_tree.specs.declared.faults.AssembleFault.{AssembleFault}
use Rattle.cert_tree.specs.declared.faults.AssembleFault.TheVariants.{Stranger, Double, Missing, Memory}

module _ {X : Type 0} (number_of : X → ℕ) where
  -- how many of the pieces have the number
  abbrev pub how_often : List X → ℕ → ℕ
  how_often pieces n = count_by (λ x. number_of x == n) pieces

  -- It is the only piece with the number.
  pub record IsOnly (pieces : List X) (n : ℕ) (x : X) : Type 0 where
    pub among : Contains pieces x
    pub number : number_of x ≡ n
    pub once : how_often pieces n ≡ 1

  -- No piece has a number at or past the count.
  abbrev pub HaveNoStranger : (count : ℕ) (pieces : List X) → Type 0
  HaveNoStranger count pieces = (n : ℕ) → count ≤ n → how_often pieces n ≡ 0

  -- Each number below the count has one piece, these are the pieces by their numbers, and there are no others.
  pub record IsAssembly (count : ℕ) (pieces xs : List X) : Type 0 where
    pub many : length xs ≡ count
    pub only : (n : ℕ) (x : X) → slice_get xs n ≡ Some x → IsOnly pieces n x
    pub no_stranger : HaveNoStranger count pieces

  -- When a fault occurs.
  abbrev pub AssemblyFails : (count : ℕ) (pieces : List X) → AssembleFault → Type 0
  AssemblyFails count pieces (Stranger n) = (count ≤ n) × (how_often pieces n ≢ 0)
  AssemblyFails count pieces (Double n) = 1 < how_often pieces n
  AssemblyFails count pieces (Missing n) = (n < count) × (how_often pieces n ≡ 0)
  AssemblyFails count pieces Memory = ⊥

-- the order of the faults, and of those of a kind by number
abbrev pub assembly_rank : AssembleFault → Rank
assembly_rank (Stranger n) = rank_by_two 1 n
assembly_rank (Double n) = rank_by_two 2 n
assembly_rank (Missing n) = rank_by_two 3 n
assembly_rank Memory = rank_by 4

-- The pieces by number, or the first fault. Of want of memory nothing is said.
abbrev pub Assembles : {X : Type 0} → (X → ℕ) → (count : ℕ) (pieces : List X) → Result (List X) AssembleFault → Type 0
Assembles number_of count pieces (Ok xs) = IsAssembly number_of count pieces xs
Assembles number_of count pieces (Err Memory) = Unit {0}
Assembles number_of count pieces (Err fault) = IsFirst assembly_rank (AssemblyFails number_of count pieces) fault

-- It is settled, and not for want of memory.
abbrev pub IsSettled : {X : Type 0} → Result X AssembleFault → Type 0
IsSettled result = result ≢ Err Memory

-- Pieces are assembled to one result, whatever order they are in, unless memory runs out.
abbrev pub IsOneInAnyOrder : {X : Type 0} → (X → ℕ) → Type 0
IsOneInAnyOrder {X} number_of =
    (count : ℕ) (pieces others : List X) (a b : Result (List X) AssembleFault) → IsPermutation pieces others
    → IsSettled a → IsSettled b
    → Assembles number_of count pieces a → Assembles number_of count others b → a ≡ b

-- The least number with the property, or that none has it.
abbrev pub TellsLeast : (ℕ → Type 0) → Option ℕ → Type 0
TellsLeast P None = (n : ℕ) → P n → ⊥
TellsLeast P (Some n) = IsLeast P n
