-- Options by the numbers of their pairs.
use Rattle.std.specs.Prelude.{◌≡◌, ◌+◌, ◌*◌, ℕ, List, Option, Some, length, slice_get}
use Rattle.match_puzzle.specs.declared.placements.Pair.{Pair}

-- the number of a pair, by cell, tile and turn, where there are `tiles` tiles
abbrev pub pair_number : (tiles : ℕ) → Pair → ℕ
pair_number tiles y = 4 * (tiles * y.cell + y.placement.tile) + y.placement.turn

-- At the number of a pair is the option with this pair, if there is one.
pub record AreNumbered (tiles : ℕ) (pairs : List Pair) (options : List (Option ℕ)) : Type 0 where
  pub long : length options ≡ 4 * tiles * tiles
  pub stands : (option : ℕ) (y : Pair) → slice_get pairs option ≡ Some y
      → slice_get options (pair_number tiles y) ≡ Some (Some option)
  pub only : (number option : ℕ) → slice_get options number ≡ Some (Some option)
      → (y : Pair) × (slice_get pairs option ≡ Some y) × (pair_number tiles y ≡ number)
