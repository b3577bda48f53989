-- How a tile or a pair changes a balance of sides.
use Rattle.std.specs.Prelude.{◌≡◌, ◌<◌, ◌≤◌, ◌+◌, ◌^◌, if◌then◌else◌, ℕ, true, List, count_by, length, slice_index}
use Rattle.match_limits.specs.declared.TheConstants.{MOST_COLOURS}
use Rattle.match_puzzle.specs.Puzzle.{Task, word_of}
use Rattle.match_puzzle.specs.declared.placements.Pair.{Pair}
use Rattle.count_search.specs.Balance.{word_gives, pair_gives, is_outer, opposite, place_of, AreUnturnedSquares}
use Rattle.count_search.specs.declared.balances.Balance.{Balance}

-- Each number is how many of the puzzle's tiles give the colour on the side.
abbrev pub AreTileSides : Task → List ℕ → Type 0
AreTileSides p sides = (side colour : ℕ) → side < 4 → colour < MOST_COLOURS
    → slice_index sides (place_of side colour) ≡ count_by (word_gives p side colour) p.words

-- The numbers are at most so great.
abbrev pub AreAtMost : (most : ℕ) → List ℕ → Type 0
AreAtMost most sides = (side colour : ℕ) → side < 4 → colour < MOST_COLOURS
    → slice_index sides (place_of side colour) ≤ most

-- The tile is counted too.
abbrev pub AddsTile : Task → (tile : ℕ) → (before after : List ℕ) → Type 0
AddsTile p tile before after = (side colour : ℕ) → side < 4 → colour < MOST_COLOURS
    → slice_index after (place_of side colour)
    ≡ slice_index before (place_of side colour) + (if word_gives p side colour (word_of p tile) then 1 else 0)

-- a pair of the puzzle, and a balance of it
pub record GoesInto (p : Task) (y : Pair) (b : Balance) : Type 0 where
  pub squares : AreUnturnedSquares p
  pub cell : y.cell < length b.outer.items
  pub tile : y.placement.tile < length p.words

-- The pair may be counted: the numbers have room for it, and the outer sides of its cell are free.
pub record MayAdd (p : Task) (y : Pair) (b : Balance) : Type 0 where
  pub goes : GoesInto p y b
  pub room : AreAtMost (2 ^ 31) b.sides
  pub free : (side : ℕ) → side < 4 → is_outer b.outer.items y.cell side ≡ true → 1 ≤ slice_index b.free side

-- The pair may be taken back: it is counted.
pub record MayTakeBack (p : Task) (y : Pair) (b : Balance) : Type 0 where
  pub goes : GoesInto p y b
  pub counted : (side colour : ℕ) → side < 4 → colour < MOST_COLOURS
      → pair_gives p b.outer.items (opposite side) colour y ≡ true → 1 ≤ slice_index b.sides (place_of side colour)
  pub room : (side : ℕ) → side < 4 → slice_index b.free side ≤ 2 ^ 31

-- The pair is counted too.
pub record AddsPair (p : Task) (y : Pair) (before after : Balance) : Type 0 where
  pub outer : after.outer ≡ before.outer
  pub colours : after.colours ≡ before.colours
  pub sides : (side colour : ℕ) → side < 4 → colour < MOST_COLOURS
      → slice_index after.sides (place_of side colour)
      ≡ slice_index before.sides (place_of side colour)
      + (if pair_gives p before.outer.items (opposite side) colour y then 1 else 0)
  pub free : (side : ℕ) → side < 4 → slice_index before.free side
      ≡ slice_index after.free side + (if is_outer before.outer.items y.cell side then 1 else 0)
