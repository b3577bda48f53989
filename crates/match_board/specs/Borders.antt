-- What is asked of the border of a board.
use Rattle.std.specs.Prelude.{◌≡◌, ◌<◌, ◌^◌, ℕ, List, Option, Some, length, slice_get}
use Rattle.match_board.specs.Board.{IsBorderOrder}
use Rattle.match_board.specs.declared.figures.Figure.{Figure}
use Rattle.match_board.specs.declared.borders.Border.{Border}
use Rattle.match_board.specs.declared.borders.Border.TheVariants.{Free, One, Each}

-- what is asked of the border pairs
pub data BorderRule : Type 0 where
  -- nothing
  free : BorderRule
  -- this colour on each
  one : (colour : ℕ) → BorderRule
  -- a colour, or nothing, for each, in border order
  each : (rules : List (Option ℕ)) → BorderRule

abbrev pub rule_of : Border → BorderRule
rule_of Free = free
rule_of (One colour) = one colour
rule_of (Each rules) = each rules

-- what a border rule asks of a border pair
abbrev pub Asks : Figure → BorderRule → (cell side colour : ℕ) → Type 0
Asks s free cell side colour = ⊥
Asks s (one c) cell side colour = colour ≡ c
Asks s (each rules) cell side colour =
    (pairs : List (ℕ × ℕ)) × IsBorderOrder s pairs × (number : ℕ)
    × (slice_get pairs number ≡ Some (cell, side)) × (slice_get rules number ≡ Some (Some colour))

-- The colour stands in the border rule at this place.
abbrev pub StandsInRule : BorderRule → (place colour : ℕ) → Type 0
StandsInRule free place colour = ⊥
StandsInRule (one c) place colour = (place ≡ 0) × (colour ≡ c)
StandsInRule (each rules) place colour = slice_get rules place ≡ Some (Some colour)

-- A list of rules has one for each border pair.
abbrev pub IsAsLongAsBorder : Figure → BorderRule → Type 0
IsAsLongAsBorder s free = Unit {0}
IsAsLongAsBorder s (one c) = Unit {0}
IsAsLongAsBorder s (each rules) = (pairs : List (ℕ × ℕ)) × IsBorderOrder s pairs × (length rules ≡ length pairs)

-- The rule asks for the colour on the border pair with this number, in border order.
abbrev pub AsksAt : BorderRule → (number colour : ℕ) → Type 0
AsksAt free number colour = ⊥
AsksAt (one c) number colour = colour ≡ c
AsksAt (each rules) number colour = slice_get rules number ≡ Some (Some colour)

-- A list of rules has fewer than 2^32 entries.
abbrev pub IsShortRule : BorderRule → Type 0
IsShortRule free = Unit {0}
IsShortRule (one c) = Unit {0}
IsShortRule (each rules) = length rules < 2 ^ 32
