-- What may be wrong with an arrangement.
use Rattle.std.specs.Prelude.{◌≡◌, ◌≢◌, ◌<◌, ◌≤◌, ℕ, List, Some, length, slice_get}
use Rattle.match_board.specs.Board.{cell_count, Meets}
use Rattle.match_limits.specs.First.{Rank, IsFirst, rank_by, rank_by_two, rank_by_three}
use Rattle.match_puzzle.specs.Puzzle.{Task, colour_of, GoTogether, IsLegalTurn, HasRule}
use Rattle.match_puzzle.specs.Arrangement.{IsArrangement, Stands}
use Rattle.match_puzzle.specs.declared.placements.Placement.{Placement}
use Rattle.match_puzzle.specs.declared.faults.ArrangementFault.{ArrangementFault}
use Rattle.match_puzzle.specs.declared.faults.ArrangementFault.TheVariants.{Length, TileRange, Turn, TileTwice}
use Rattle.match_puzzle.specs.declared.faults.ArrangementFault.TheVariants.{BorderBroken, EdgeBroken}

module _ (p : Task) (a : List Placement) where
  -- The placement at the cell names no tile of the puzzle.
  abbrev pub HasNoTileAt : ℕ → Type 0
  HasNoTileAt cell = (x : Placement) × Stands a cell x × (length p.words ≤ x.tile)

  -- The tile at the cell may not be turned so.
  abbrev pub HasNoTurnAt : ℕ → Type 0
  HasNoTurnAt cell = (x : Placement) × Stands a cell x × (IsLegalTurn p x → ⊥)

  -- The tile at the cell stands at an earlier cell too.
  abbrev pub RepeatsTileAt : ℕ → Type 0
  RepeatsTileAt cell =
      (x : Placement) × (cell' : ℕ) × (y : Placement) × Stands a cell x × (cell' < cell) × Stands a cell' y
      × (x.tile ≡ y.tile)

  -- The side shows what the border asks.
  abbrev pub ObeysBorderAt : (cell side : ℕ) → Type 0
  ObeysBorderAt cell side =
      (colour : ℕ) (x : Placement) → Stands a cell x → HasRule p cell side colour → colour_of p x side ≡ colour

  -- The side does not show what the border asks.
  abbrev pub BreaksBorderAt : (cell side : ℕ) → Type 0
  BreaksBorderAt cell side =
      (x : Placement) × (colour : ℕ) × Stands a cell x × HasRule p cell side colour × (colour_of p x side ≢ colour)

  -- The side does not match the one that it meets.
  abbrev pub BreaksEdgeAt : (cell side : ℕ) → Type 0
  BreaksEdgeAt cell side =
      (x : Placement) × (cell' : ℕ) × (side' : ℕ) × (y : Placement) × Stands a cell x
      × Meets p.board cell side cell' side' × Stands a cell' y
      × (GoTogether p (colour_of p x side) (colour_of p y side') → ⊥)

  -- When a fault occurs.
  abbrev pub ArrangementFails : ArrangementFault → Type 0
  ArrangementFails Length = length a ≢ cell_count p.board
  ArrangementFails (TileRange cell) = HasNoTileAt cell
  ArrangementFails (Turn cell) = HasNoTurnAt cell
  ArrangementFails (TileTwice cell) = RepeatsTileAt cell
  ArrangementFails (BorderBroken cell side) = BreaksBorderAt cell side
  ArrangementFails (EdgeBroken cell side) = BreaksEdgeAt cell side

-- the order of the faults
abbrev pub arrangement_rank : ArrangementFault → Rank
arrangement_rank Length = rank_by 1
arrangement_rank (TileRange cell) = rank_by_two 2 cell
arrangement_rank (Turn cell) = rank_by_two 3 cell
arrangement_rank (TileTwice cell) = rank_by_two 4 cell
arrangement_rank (BorderBroken cell side) = rank_by_three 5 cell side
arrangement_rank (EdgeBroken cell side) = rank_by_three 6 cell side

-- the first kind that occurs, at its least place
abbrev pub IsArrangementFault : Task → List Placement → ArrangementFault → Type 0
IsArrangementFault p a = IsFirst arrangement_rank (ArrangementFails p a)

-- The one with this number, from 0, is no arrangement of the puzzle, by this fault; each before it is one.
pub record IsFirstWrong (p : Task) (listed : List (List Placement)) (number : ℕ) (fault : ArrangementFault)
    : Type 0 where
  pub wrong : (a : List Placement) × (slice_get listed number ≡ Some a) × IsArrangementFault p a fault
  pub before : (earlier : ℕ) (a : List Placement) → earlier < number → slice_get listed earlier ≡ Some a
      → IsArrangement p a
