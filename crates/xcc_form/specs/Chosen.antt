-- Chosen options of a compiled puzzle, and what to branch on.
use Rattle.std.specs.Prelude.{◌≡◌, ◌⊎◌, ◌<◌, ◌≤◌, ◌-◌, ◌++◌, ◌∷◌, [], ℕ, zero, suc, List, Option, IfSome, Contains, length, take}
use Rattle.match_limits.specs.Listing.{IsListing}
use Rattle.match_puzzle.specs.declared.placements.Placement.{Placement}
use Rattle.xcc_form.specs.ExactCover.{Cover, HasPrimary}
use Rattle.xcc_form.specs.Options.{Compiled, IsCompiled, cover_of}
use Rattle.xcc_form.specs.Correspondence.{IsSolutionOf}
use Rattle.xcc_form.specs.Clashes.{IsPartialSolution, IsOpenAt}

-- a compiled puzzle and the options chosen so far, in the order of choosing
pub record Selection : Type 0 where
  pub compiled : Compiled
  pub chosen : List ℕ

-- No two of the chosen options of the compiled puzzle clash.
pub record IsSelection (x : Compiled) (chosen : List ℕ) : Type 0 where
  pub compiled : IsCompiled x
  pub partial : IsPartialSolution (cover_of x) chosen

-- one option more, the last
abbrev pub with_option : Selection → (option : ℕ) → Selection
with_option s option = record { compiled = s.compiled; chosen = s.chosen ++ option ∷ [] }

-- all but the last
abbrev pub without_last : Selection → Selection
without_last s = record { compiled = s.compiled; chosen = take (length s.chosen - 1) s.chosen }

-- the state before the last `choices` choices, of which each is taken back by the same step
abbrev pub before_last : {S : Type 0} → (taken_back : S → S) → (choices : ℕ) → S → S
before_last taken_back zero s = s
before_last taken_back (suc choices) s = before_last taken_back choices (taken_back s)

-- the state before all choices
abbrev pub before_any : {S : Type 0} → (selection : S → Selection) → (taken_back : S → S) → S → S
before_any selection taken_back s = before_last taken_back (length (selection s).chosen) s

-- A chosen option has the item.
abbrev pub IsCovered : Cover → (chosen : List ℕ) → (item : ℕ) → Type 0
IsCovered x chosen item = (option : ℕ) × Contains chosen option × HasPrimary x option item

-- Each primary item is an item of a chosen option.
abbrev pub AreAllCovered : Cover → (chosen : List ℕ) → Type 0
AreAllCovered x chosen = (item : ℕ) → item < x.primaries → IsCovered x chosen item

-- a primary item of no chosen option
pub record IsUncovered (x : Cover) (chosen : List ℕ) (item : ℕ) : Type 0 where
  pub primary : item < x.primaries
  pub uncovered : IsCovered x chosen item → ⊥

-- all open options of the item, rising
abbrev pub AreOpenAt : Cover → (chosen : List ℕ) → (item : ℕ) → (options : List ℕ) → Type 0
AreOpenAt x chosen item options = IsListing ◌<◌ (IsOpenAt x chosen item) options

-- There are just `size` open options of the item.
abbrev pub HasSize : Cover → (chosen : List ℕ) → (item size : ℕ) → Type 0
HasSize x chosen item size = (options : List ℕ) × AreOpenAt x chosen item options × (length options ≡ size)

-- Of the uncovered items that have the fewest open options, the item is the one with the least number.
pub record IsToBranchOn (x : Cover) (chosen : List ℕ) (item : ℕ) : Type 0 where
  pub uncovered : IsUncovered x chosen item
  pub fewest : (other size other_size : ℕ) → IsUncovered x chosen other → HasSize x chosen item size
      → HasSize x chosen other other_size → (size < other_size) ⊎ ((size ≡ other_size) × (item ≤ other))

-- what a rule may pick where these options are chosen, by its number
abbrev pub Picks : Type 1
Picks = Selection → ℕ → Type 0

-- of the uncovered items the one with the fewest open options, the least number at a tie
abbrev pub picks_fewest : Picks
picks_fewest s = IsToBranchOn (cover_of s.compiled) s.chosen

-- The number comes after that one; where none is named, each does.
abbrev pub ComesAfter : (after : Option ℕ) → (number : ℕ) → Type 0
ComesAfter after number = IfSome after (λ before. before < number)

-- the first uncovered item after that one
pub record IsNextItem (x : Cover) (chosen : List ℕ) (after : Option ℕ) (item : ℕ) : Type 0 where
  pub uncovered : IsUncovered x chosen item
  pub after_it : ComesAfter after item
  pub first : (other : ℕ) → IsUncovered x chosen other → ComesAfter after other → item ≤ other

-- No uncovered item comes after that one.
abbrev pub IsLastItem : Cover → (chosen : List ℕ) → (after : Option ℕ) → Type 0
IsLastItem x chosen after = (other : ℕ) → IsUncovered x chosen other → ComesAfter after other → ⊥

-- the first open option of the item after that one
pub record IsNext (x : Cover) (chosen : List ℕ) (item : ℕ) (after : Option ℕ) (option : ℕ) : Type 0 where
  pub open_option : IsOpenAt x chosen item option
  pub after_it : ComesAfter after option
  pub first : (other : ℕ) → IsOpenAt x chosen item other → ComesAfter after other → option ≤ other

-- No open option of the item comes after that one.
abbrev pub IsLast : Cover → (chosen : List ℕ) → (item : ℕ) → (after : Option ℕ) → Type 0
IsLast x chosen item after = (other : ℕ) → IsOpenAt x chosen item other → ComesAfter after other → ⊥

-- The arrangement is that of a solution that has all chosen options.
pub record IsFoundFrom (s : Selection) (a : List Placement) : Type 0 where
  pub solution : List ℕ
  pub is_solution : IsSolutionOf s.compiled a solution
  pub has_chosen : (option : ℕ) → Contains s.chosen option → Contains solution option
