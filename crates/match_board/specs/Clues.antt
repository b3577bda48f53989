-- Clues: what cells have to show.
use Rattle.std.specs.Prelude.{◌≡◌, ℕ, List, Option, Some, Contains, slice_get, take}
use Rattle.match_board.specs.declared.clues.Clue.{Clue as BoardClue}

-- what is asked at a cell: a colour, or nothing, for each of its sides
pub record Clue : Type 0 where
  pub cell : ℕ
  pub asks : List (Option ℕ)

-- the clue of a cell and its sides
abbrev pub clue_of : BoardClue → Clue
clue_of c = record { cell = c.cell; asks = take c.sides c.asks }

-- One of the clues asks the side of the cell for the colour.
abbrev pub AsksByClue : List Clue → (cell side colour : ℕ) → Type 0
AsksByClue clues cell side colour =
    (clue : Clue) × Contains clues clue × (clue.cell ≡ cell) × (slice_get clue.asks side ≡ Some (Some colour))
