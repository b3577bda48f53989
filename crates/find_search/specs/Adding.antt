-- What a search has listed, and what it adds.
use Rattle.std.specs.Prelude.{◌≡◌, ◌<◌, ◌++◌, ◌↔◌, List, Contains, length, map}
use Rattle.match_puzzle.specs.Arrangement.{AreArrangements}
use Rattle.match_puzzle.specs.Puzzle.{Task}
use Rattle.match_puzzle.specs.declared.placements.Placement.{Placement}
use Rattle.puzzle_symmetry.specs.Motion.{Motion, line_of}
use Rattle.puzzle_symmetry.specs.Reached.{IsReached}
use Rattle.symmetry_orbits.specs.Products.{AreSymmetriesOf}
use Rattle.find_search.specs.declared.ends.Ended.{Ended}
use Rattle.find_search.specs.declared.ends.Ended.TheVariants.{Whole}
use Rattle.find_search.specs.declared.listed.Listed.{Listed}
use Rattle.find_search.specs.Finding.{AreOfDifferentOrbits}

-- Arrangements of different orbits are listed. Where there are symmetries, the set has just what they reach from these.
pub record IsList (p : Task) (motions : List Motion) (l : Listed) : Type 0 where
  pub arrangements : AreArrangements p l.arrangements.items
  pub apart : AreOfDifferentOrbits p (map line_of motions) l.arrangements.items
  pub reached : 0 < length motions → (a : List Placement) → Contains l.reached.keys a
      ↔ IsReached p (map line_of motions) l.arrangements.items a

-- Arrangements that are like this may be added: where there are no symmetries, none of them is listed.
pub record MayAdd (p : Task) (motions : List Motion) (Is : List Placement → Type 0) (l : Listed) : Type 0 where
  pub symmetries : AreSymmetriesOf p motions
  pub list : IsList p motions l
  pub new : length motions ≡ 0 → (a : List Placement) → Is a → Contains l.arrangements.items a → ⊥

-- Arrangements that are like this were added. Where it ended as whole, the symmetries reach all that are like this.
pub record Adds (p : Task) (motions : List Motion) (Is : List Placement → Type 0) (before after : Listed) (ended : Ended)
    : Type 0 where
  pub list : IsList p motions after
  pub more : List (List Placement)
  pub added : after.arrangements.items ≡ before.arrangements.items ++ more
  pub each : (a : List Placement) → Contains more a → Is a
  pub all : ended ≡ Whole → (a : List Placement) → Is a
      → IsReached p (map line_of motions) after.arrangements.items a
