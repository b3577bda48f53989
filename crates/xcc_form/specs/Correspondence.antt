-- Which arrangement goes with which options.
use Rattle.std.specs.Prelude.{◌≡◌, ◌↔◌, ℕ, List, Some, Contains, length, slice_get}
use Rattle.match_board.specs.Board.{cell_count}
use Rattle.match_puzzle.specs.Arrangement.{IsArrangement, Stands}
use Rattle.match_puzzle.specs.declared.placements.Placement.{Placement}
use Rattle.match_puzzle.specs.declared.placements.Pair.{Pair}
use Rattle.xcc_form.specs.ExactCover.{IsSolution}
use Rattle.xcc_form.specs.Options.{Compiled, Choice, cover_of}

-- The pair is that of the option with this number.
abbrev pub IsPairOf : Compiled → (option : ℕ) → Pair → Type 0
IsPairOf x option pair = (c : Choice) × (slice_get x.options option ≡ Some c) × (c.pair ≡ pair)

-- On the board stands, at each cell, just what a chosen option puts there.
pub record IsFilledBy (x : Compiled) (chosen : List ℕ) (a : List Placement) : Type 0 where
  pub cells : length a ≡ cell_count x.puzzle.board
  pub stands : (option : ℕ) (pair : Pair) → Contains chosen option → IsPairOf x option pair
      → Stands a pair.cell pair.placement
  pub put : (cell : ℕ) (y : Placement) → Stands a cell y → (option : ℕ) × Contains chosen option
      × IsPairOf x option (record { cell = cell; placement = y })

-- The options stand by cell: at each place that of the cell with this number.
pub record AreByCell (x : Compiled) (a : List Placement) (chosen : List ℕ) : Type 0 where
  pub long : length chosen ≡ length a
  pub each : (cell option : ℕ) (y : Placement) → slice_get chosen cell ≡ Some option → Stands a cell y
      → IsPairOf x option (record { cell = cell; placement = y })

-- The options are a solution, and its arrangement stands on the board.
pub record IsSolutionOf (x : Compiled) (a : List Placement) (chosen : List ℕ) : Type 0 where
  pub solution : IsSolution (cover_of x) chosen
  pub arrangement : IsArrangement x.puzzle a
  pub filled : IsFilledBy x chosen a

-- Both lists have the same options, in whatever order and however often.
abbrev pub HaveSameOptions : (chosen other : List ℕ) → Type 0
HaveSameOptions chosen other = (option : ℕ) → Contains chosen option ↔ Contains other option
