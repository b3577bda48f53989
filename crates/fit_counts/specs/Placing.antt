-- Pairs that are placed one after the other.
use Rattle.std.specs.Prelude.{◌≡◌, ◌-◌, ◌++◌, ◌∷◌, [], ℕ, List, Some, length, slice_get, take}
use Rattle.match_puzzle.specs.Puzzle.{Task}
use Rattle.match_puzzle.specs.Prefix.{Prefix, empty_prefix, with_pairs}
use Rattle.match_puzzle.specs.Fitting.{Fits}
use Rattle.match_puzzle.specs.declared.placements.Pair.{Pair}

-- the prefix that these pairs make
abbrev pub prefix_of : Task → List Pair → Prefix
prefix_of p pairs = with_pairs pairs (empty_prefix p)

-- Each pair fits those before it.
abbrev pub FitInTurn : Task → List Pair → Type 0
FitInTurn p pairs =
    (place : ℕ) (x : Pair) → slice_get pairs place ≡ Some x → Fits p (prefix_of p (take place pairs)) x.cell x.placement

-- a puzzle, and the pairs that were placed, in the order of placing
pub record Placing : Type 0 where
  pub puzzle : Task
  pub pairs : List Pair

-- what the pairs make
abbrev pub placed_by : Placing → Prefix
placed_by s = prefix_of s.puzzle s.pairs

-- one pair more, the last
abbrev pub with_next : Placing → Pair → Placing
with_next s pair = record { puzzle = s.puzzle; pairs = s.pairs ++ pair ∷ [] }

-- all but the last
abbrev pub without_last : Placing → Placing
without_last s = record { puzzle = s.puzzle; pairs = take (length s.pairs - 1) s.pairs }
