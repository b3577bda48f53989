-- How many colours a puzzle has.
use Rattle.std.specs.Prelude.{◌<◌, ◌≤◌, ◌⊎◌, ℕ, Contains, length}
use Rattle.match_puzzle.specs.Puzzle.{Task, word_of}
use Rattle.match_board.specs.Borders.{StandsInRule}
use Rattle.match_board.specs.Clues.{AsksByClue}

-- The colour is on a tile, in the border rule, in the list of mates or in a clue.
abbrev pub HasColour : Task → ℕ → Type 0
HasColour p colour =
    ((tile : ℕ) × (tile < length p.words) × Contains (word_of p tile) colour)
    ⊎ ((place : ℕ) × StandsInRule p.border place colour)
    ⊎ (colour < length p.mating.mates)
    ⊎ ((cell : ℕ) × (side : ℕ) × AsksByClue p.clues cell side colour)

-- one more than the greatest colour
pub record IsColourCount (p : Task) (count : ℕ) : Type 0 where
  pub above : (colour : ℕ) → HasColour p colour → colour < count
  pub least : (other : ℕ) → ((colour : ℕ) → HasColour p colour → colour < other) → count ≤ other
