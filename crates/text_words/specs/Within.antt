-- What is within the limits of a word.
use Rattle.std.specs.Prelude.{◌≡◌, ◌⊎◌, ◌<◌, ◌≤◌, ℕ, List, Option, Some, None, length}
use Rattle.std.specs.List.{AllByRecursion}
use Rattle.match_limits.specs.declared.TheConstants.{LAST_CELL, LAST_TURN, MOST_COLOURS}
use Rattle.match_board.specs.Clues.{Clue}
use Rattle.match_puzzle.specs.declared.placements.Placement.{Placement}
use Rattle.match_limits.specs.declared.ranges.Ranges.{Ranges}

-- The tile's number is in the range, and the turn is one of four.
abbrev pub IsPlacementWithin : Ranges → Placement → Type 0
IsPlacementWithin ranges p = (p.tile ≤ ranges.last_cell) × (p.turn ≤ LAST_TURN)

-- A rule of the border asks for nothing, or for a colour that there is.
abbrev pub IsRuleWithin : Option ℕ → Type 0
IsRuleWithin None = Unit {0}
IsRuleWithin (Some colour) = colour < MOST_COLOURS

-- three or four colours
abbrev pub IsWordWithin : List ℕ → Type 0
IsWordWithin word = ((length word ≡ 3) ⊎ (length word ≡ 4)) × AllByRecursion (λ colour. colour < MOST_COLOURS) word

-- a rule for each of three or four sides
abbrev pub AreAsksWithin : List (Option ℕ) → Type 0
AreAsksWithin asks = ((length asks ≡ 3) ⊎ (length asks ≡ 4)) × AllByRecursion IsRuleWithin asks

-- The cell is one that a text may name, and there is a rule for each side.
abbrev pub IsClueWithin : Clue → Type 0
IsClueWithin c = (c.cell ≤ LAST_CELL) × AreAsksWithin c.asks
