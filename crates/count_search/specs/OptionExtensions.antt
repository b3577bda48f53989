-- How many arrangements have options that are chosen.
use Rattle.std.specs.Prelude.{ℕ, List, Contains}
use Rattle.match_puzzle.specs.Arrangement.{IsArrangement, Stands}
use Rattle.match_puzzle.specs.Numbers.{AreSoMany}
use Rattle.match_puzzle.specs.declared.placements.Placement.{Placement}
use Rattle.match_puzzle.specs.declared.placements.Pair.{Pair}
use Rattle.xcc_form.specs.Options.{Compiled}
use Rattle.xcc_form.specs.Correspondence.{IsPairOf}

-- An arrangement has all these options: what each of them puts stands there.
pub record HasOptions (x : Compiled) (options : List ℕ) (a : List Placement) : Type 0 where
  pub arrangement : IsArrangement x.puzzle a
  pub stands : (option : ℕ) → Contains options option → (pair : Pair) × IsPairOf x option pair
      × Stands a pair.cell pair.placement

-- Just `count` arrangements have all these options.
abbrev pub HaveOptions : Compiled → (options : List ℕ) → (count : ℕ) → Type 0
HaveOptions x options count = AreSoMany (HasOptions x options) count
