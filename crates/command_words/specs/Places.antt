-- Which documents stand on standard input.
use Rattle.std.specs.Prelude.{◌≡◌, ◌⊎◌, ℕ, List, codes}
use Rattle.command_words.specs.declared.places.Place.{Place}
use Rattle.command_words.specs.declared.places.Place.TheVariants.{Input}

-- the word that names standard input
abbrev pub input_name : List ℕ
input_name = codes "-"

-- a puzzle and a list stand on standard input, which can be read but once
abbrev pub AreBothOnInput : (puzzle list : Place) → Type 0
AreBothOnInput puzzle list = (puzzle ≡ Input) × (list ≡ Input)

-- two of the three stand on standard input, which can be read but once
abbrev pub AreTwoOnInput : (puzzle list certificate : Place) → Type 0
AreTwoOnInput puzzle list certificate =
    ((puzzle ≡ Input) × (list ≡ Input))
    ⊎ (((puzzle ≡ Input) × (certificate ≡ Input)) ⊎ ((list ≡ Input) × (certificate ≡ Input)))
