-- The pairs of options, and arrangements that have them.
use Rattle.std.specs.Prelude.{◌≡◌, ℕ, List, Option, None, Some, Contains, length, slice_get}
use Rattle.match_puzzle.specs.Puzzle.{Task}
use Rattle.match_puzzle.specs.Arrangement.{IsArrangement, Stands}
use Rattle.fit_counts.specs.Placing.{Placing}
use Rattle.match_puzzle.specs.declared.placements.Placement.{Placement}
use Rattle.match_puzzle.specs.declared.placements.Pair.{Pair}
use Rattle.xcc_form.specs.Options.{Compiled}
use Rattle.xcc_form.specs.Correspondence.{IsPairOf}
use Rattle.xcc_form.specs.Chosen.{IsSelection}

-- The pairs are those of the options, one for each, in their order.
pub record ArePairsOf (x : Compiled) (options : List ℕ) (pairs : List Pair) : Type 0 where
  pub long : length pairs ≡ length options
  pub each : (place option : ℕ) (y : Pair) → slice_get options place ≡ Some option → slice_get pairs place ≡ Some y
      → IsPairOf x option y

-- an arrangement of the puzzle with all these pairs
pub record IsArrangementWith (p : Task) (pairs : List Pair) (a : List Placement) : Type 0 where
  pub arrangement : IsArrangement p a
  pub extends : (x : Pair) → Contains pairs x → Stands a x.cell x.placement

-- The options are chosen of the compiled puzzle, and just their pairs are placed, in the same order.
pub record IsPlacingOf (x : Compiled) (chosen : List ℕ) (placing : Placing) : Type 0 where
  pub selection : IsSelection x chosen
  pub puzzle : placing.puzzle ≡ x.puzzle
  pub pairs : ArePairsOf x chosen placing.pairs

-- The pair is that of the option, or neither is there.
abbrev pub IsPairOfAny : Compiled → Option ℕ → Option Pair → Type 0
IsPairOfAny x None None = Unit {0}
IsPairOfAny x None (Some y) = ⊥
IsPairOfAny x (Some option) None = ⊥
IsPairOfAny x (Some option) (Some y) = IsPairOf x option y
