-- What holds of each compiled puzzle.
use Rattle.std.specs.Prelude.{◌≡◌, ◌<◌, ℕ, List, Some, Contains, slice_get}
use Rattle.match_limits.specs.declared.TheConstants.{MOST_COLOURS}
use Rattle.match_puzzle.specs.Arrangement.{IsArrangement}
use Rattle.match_puzzle.specs.declared.placements.Placement.{Placement}
use Rattle.xcc_form.specs.ExactCover.{IsSolution, IsCover}
use Rattle.xcc_form.specs.Options.{Compiled, Choice, IsCompiled, cover_of}
use Rattle.xcc_form.specs.declared.edges.Edge.{Edge}
use Rattle.xcc_form.specs.Correspondence.{IsFilledBy, HaveSameOptions}

-- Each solution has one arrangement, each arrangement one solution, in whatever order its options stand.
pub record AreOneToOne (x : Compiled) : Type 0 where
  pub arrangement : (chosen : List ℕ) → IsSolution (cover_of x) chosen → (a : List Placement) × IsArrangement x.puzzle a
      × IsFilledBy x chosen a
  pub one_arrangement : (chosen : List ℕ) (a b : List Placement) → IsFilledBy x chosen a → IsFilledBy x chosen b → a ≡ b
  pub solution : (a : List Placement) → IsArrangement x.puzzle a → (chosen : List ℕ) × IsSolution (cover_of x) chosen
      × IsFilledBy x chosen a
  pub one_solution : (a : List Placement) (chosen other : List ℕ) → IsSolution (cover_of x) chosen
      → IsSolution (cover_of x) other → IsFilledBy x chosen a → IsFilledBy x other a → HaveSameOptions chosen other

-- A puzzle is compiled in one way.
abbrev pub IsOnlyOne : Compiled → Type 0
IsOnlyOne x = (y : Compiled) → IsCompiled y → y.puzzle ≡ x.puzzle → y ≡ x

-- It is an exact cover, with colours below 36.
pub record IsColouredCover (x : Compiled) : Type 0 where
  pub cover : IsCover (cover_of x)
  pub colours : (option : ℕ) (c : Choice) (e : Edge) → slice_get x.options option ≡ Some c → Contains c.edges e
      → e.colour < MOST_COLOURS
