-- Mates of colours.
use Rattle.std.specs.Prelude.{◌≡◌, ◌≢◌, ◌⊎◌, ◌<◌, ◌≤◌, ℕ, List, [], length, slice_index_or}
use Rattle.match_limits.specs.declared.TheConstants.{MOST_COLOURS}

-- the mate of a colour: its entry in the list, or itself past the list's end
abbrev pub mate_in : List ℕ → ℕ → ℕ
mate_in mates colour = slice_index_or mates colour colour

-- The colour's mate is in the list, and has it as its mate.
abbrev pub HasMate : List ℕ → ℕ → Type 0
HasMate mates colour = (mate_in mates colour < length mates) × (mate_in mates (mate_in mates colour) ≡ colour)

-- Each colour of the list has its mate there, and they are no more than there are colours.
pub record AreMates (mates : List ℕ) : Type 0 where
  pub few : length mates ≤ MOST_COLOURS
  pub each : (colour : ℕ) → colour < length mates → HasMate mates colour

-- the version of a puzzle, and its list of mates
pub record Mating : Type 0 where
  pub version : ℕ
  pub mates : List ℕ

-- a mating, by its version and list
abbrev pub mating_of : ℕ → List ℕ → Mating
mating_of version mates = record { version = version; mates = mates }

-- version 1, where each colour is its own mate
abbrev pub unmated : Mating
unmated = record { version = 1; mates = [] }

-- version 2, with this list of mates
abbrev pub mated : List ℕ → Mating
mated mates = record { version = 2; mates = mates }

-- There are three versions, and the first has no mates.
abbrev pub IsOfVersion : Mating → Type 0
IsOfVersion m = ((m.version ≡ 1) × (m.mates ≡ [])) ⊎ (m.version ≡ 2) ⊎ (m.version ≡ 3)

-- a version, with its mates
pub record IsMating (m : Mating) : Type 0 where
  pub version : IsOfVersion m
  pub mates : AreMates m.mates

-- The colour of the list has a mate that is not in the list, or has another mate.
abbrev pub HasNoMateAt : List ℕ → ℕ → Type 0
HasNoMateAt mates colour =
    (colour < length mates)
    × ((length mates ≤ mate_in mates colour) ⊎ (mate_in mates (mate_in mates colour) ≢ colour))

-- It is so of the colour, or this is the place after the last colour, and the list is longer.
abbrev pub BreaksMatesAt : List ℕ → ℕ → Type 0
BreaksMatesAt mates place =
    HasNoMateAt mates place ⊎ ((place ≡ MOST_COLOURS) × (MOST_COLOURS < length mates))
