-- Branches of a search, and how many arrangements they have together.
use Rattle.std.specs.Prelude.{◌≡◌, ◌<◌, ◌+◌, ◌≤◌, ◌-◌, ◌*◌, ◌^◌, ℕ, zero, suc, List, [], ◌∷◌, Option, None, Some, Contains, length, slice_get}
use Rattle.match_puzzle.specs.Arrangement.{HasArrangements}
use Rattle.xcc_form.specs.Options.{Compiled}
use Rattle.count_search.specs.OptionExtensions.{HaveOptions}

-- options that are chosen, and how many branches alike it stands for
pub record WeightedBranch : Type 0 where
  pub chosen : List ℕ
  pub weight : ℕ

-- the whole search
abbrev pub whole : WeightedBranch
whole = record { chosen = []; weight = 1 }

-- Together the branches have `total` arrangements, where those of a branch count as often as it weighs.
abbrev pub HaveTogether : Compiled → List WeightedBranch → (total : ℕ) → Type 0
HaveTogether x [] total = total ≡ 0
HaveTogether x (b ∷ branches) total =
    (count : ℕ) × (rest : ℕ) × HaveOptions x b.chosen count × HaveTogether x branches rest
    × (total ≡ b.weight * count + rest)

-- Together the branches have more than `most` arrangements, where those of a branch count as often as it weighs.
abbrev pub HaveMoreTogether : Compiled → List WeightedBranch → (most : ℕ) → Type 0
HaveMoreTogether x branches most = (total : ℕ) → HaveTogether x branches total → most < total

-- What these have together, those have together.
abbrev pub StandFor : Compiled → (these those : List WeightedBranch) → Type 0
StandFor x these those = (total : ℕ) → HaveTogether x these total → HaveTogether x those total

-- What these have together is how many arrangements there are.
abbrev pub IsSplit : Compiled → List WeightedBranch → Type 0
IsSplit x branches = (total : ℕ) → HaveTogether x branches total → HasArrangements x.puzzle total

-- What each branch has chosen is like this.
abbrev pub AllChoose : (Is : (chosen : List ℕ) → Type 0) → List WeightedBranch → Type 0
AllChoose Is branches = (b : WeightedBranch) → Contains branches b → Is b.chosen

-- one of every `step` members of the list, beginning with the one after the first `passed`
abbrev pub every : {X : Type 0} → (step passed : ℕ) → List X → List X
every step passed [] = []
every step zero (x ∷ xs) = x ∷ every step (step - 1) xs
every step (suc passed) (x ∷ xs) = every step passed xs

-- Each number is what a part of the branches has together, where they are dealt to as many parts as there are numbers.
pub record AreParts (x : Compiled) (branches : List WeightedBranch) (numbers : List ℕ) : Type 0 where
  pub some : 0 < length numbers
  pub each : (part number : ℕ) → slice_get numbers part ≡ Some number
      → HaveTogether x (every (length numbers) part branches) number

-- The number is how many arrangements the branches have together; there is none where they have 2^64 or more.
abbrev pub IsTotal : Compiled → List WeightedBranch → Option ℕ → Type 0
IsTotal x branches None = (total : ℕ) → HaveTogether x branches total → 2 ^ 64 ≤ total
IsTotal x branches (Some total) = HaveTogether x branches total
