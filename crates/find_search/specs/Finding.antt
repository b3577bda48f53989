-- Some arrangements of a puzzle, and when they are all.
use Rattle.std.specs.Prelude.{◌≡◌, ◌<◌, ◌≤◌, ℕ, List, Some, length, slice_get}
use Rattle.match_limits.specs.declared.TheConstants.{MOST_ARRANGEMENTS}
use Rattle.match_board.specs.declared.symmetry_lines.SymmetryLine.{SymmetryLine}
use Rattle.match_puzzle.specs.Arrangement.{IsArrangement, AreArrangements}
use Rattle.match_puzzle.specs.Numbers.{AreMoreThan}
use Rattle.match_puzzle.specs.Puzzle.{Task}
use Rattle.match_puzzle.specs.declared.placements.Placement.{Placement}
use Rattle.puzzle_symmetry.specs.Reached.{IsReached}
use Rattle.symmetry_orbits.specs.Orbits.{IsInOrbit}

-- No two places have arrangements of one orbit, so none is listed twice.
abbrev pub AreOfDifferentOrbits : Task → List SymmetryLine → (listed : List (List Placement)) → Type 0
AreOfDifferentOrbits p lines listed =
    (place other : ℕ) (a b : List Placement) → slice_get listed place ≡ Some a → slice_get listed other ≡ Some b
    → IsInOrbit p lines a b → place ≡ other

-- Arrangements of different orbits, at most `most`; where there are fewer, the symmetries reach all from these. Without
-- symmetries an arrangement is alone in its orbit: then these are different arrangements, and where there are fewer
-- than `most`, there is no other.
pub record AreFirstFound (most : ℕ) (p : Task) (lines : List SymmetryLine) (listed : List (List Placement))
    : Type 0 where
  pub arrangements : AreArrangements p listed
  pub apart : AreOfDifferentOrbits p lines listed
  pub few : length listed ≤ most
  pub all : length listed < most → (a : List Placement) → IsArrangement p a → IsReached p lines listed a

-- More arrangements are in one orbit than may be listed.
abbrev pub HasTooLargeOrbit : Task → List SymmetryLine → Type 0
HasTooLargeOrbit p lines =
    (a : List Placement) × IsArrangement p a × AreMoreThan MOST_ARRANGEMENTS (IsInOrbit p lines a)
