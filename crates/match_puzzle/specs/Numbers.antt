-- How many arrangements there are.
use Rattle.std.specs.Prelude.{◌≡◌, ◌<◌, ◌↔◌, ℕ, List, Contains, length}
use Rattle.match_puzzle.specs.Arrangement.{AreDistinct}
use Rattle.match_puzzle.specs.declared.placements.Placement.{Placement}

-- Just `count` different arrangements are like this: a list has just these, each once, and `count` is its length.
pub record AreSoMany (Is : List Placement → Type 0) (count : ℕ) : Type 0 where
  pub all : List (List Placement)
  pub just : (a : List Placement) → Contains all a ↔ Is a
  pub once : AreDistinct all
  pub counted : count ≡ length all

-- There are more than `most` different arrangements like this.
pub record AreMoreThan (most : ℕ) (Is : List Placement → Type 0) : Type 0 where
  pub found : List (List Placement)
  pub once : AreDistinct found
  pub more : most < length found
  pub each : (a : List Placement) → Contains found a → Is a
