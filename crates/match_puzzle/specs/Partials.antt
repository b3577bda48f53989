-- What a partial arrangement keeps.
use Rattle.std.specs.Prelude.{◌≡◌, ◌⊎◌, ◌≤◌, ◌+◌, ◌*◌, ℕ, List, length, slice_index}
use Rattle.match_limits.specs.declared.TheConstants.{MOST_COLOURS}
use Rattle.match_board.specs.Board.{cell_count, Meets}
use Rattle.match_puzzle.specs.Puzzle.{Task, IsPuzzle, HasRule, colour_of, mate_of}
use Rattle.match_puzzle.specs.Prefix.{Prefix, Has, IsPrefix}
use Rattle.match_puzzle.specs.PlacementSets.{AreFreeNumbers, AreUnturnedLegal, TellsOf}
use Rattle.match_puzzle.specs.declared.tables.TheConstants.{FIRST_PLACE}
use Rattle.match_puzzle.specs.declared.placements.Placement.{Placement}

-- A side that meets that other side has to show the colour: a rule asks for it, or what stands there shows its mate.
abbrev pub IsAskedFrom : Task → Prefix → (cell side cell' side' colour : ℕ) → Type 0
IsAskedFrom p q cell side cell' side' colour =
    HasRule p cell side colour ⊎ ((y : Placement) × Has q cell' y × (mate_of p (colour_of p y side') ≡ colour))

-- The table begins with each colour at its own place, and one more for none. Then it has, four places to a cell, what is
-- asked of the sides that the cell's meet.
pub record AreAsking (p : Task) (q : Prefix) (table : List ℕ) : Type 0 where
  pub long : length table ≡ FIRST_PLACE + 4 * cell_count p.board
  pub own : (colour : ℕ) → colour ≤ MOST_COLOURS → slice_index table colour ≡ colour
  pub met : (cell side cell' side' : ℕ) → Meets p.board cell side cell' side'
      → TellsOf (IsAskedFrom p q cell side cell' side') (slice_index table (FIRST_PLACE + 4 * cell' + side'))

-- what holds of each partial arrangement
pub record IsKept (p : Task) (q : Prefix) (numbers asks : List ℕ) : Type 0 where
  pub puzzle : IsPuzzle p
  pub prefix : IsPrefix p q
  pub free : AreFreeNumbers p q numbers
  pub unturned : AreUnturnedLegal p
  pub asking : AreAsking p q asks
