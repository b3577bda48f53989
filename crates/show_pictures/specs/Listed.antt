-- Pictures of what a list has.
use Rattle.std.specs.Prelude.{◌≡◌, ◌<◌, ◌≤◌, ℕ, List, length}
use Rattle.match_puzzle.specs.Arrangement.{AreArrangements}
use Rattle.match_puzzle.specs.Puzzle.{Task}
use Rattle.match_puzzle.specs.declared.placements.Placement.{Placement}
use Rattle.show_pictures.specs.Plans.{IsListedAt, to_be_drawn}
use Rattle.show_pictures.specs.Pictures.{IsLonePicture, IsSheet}

-- The picture is that of the first of these, alone, where no sheet is asked for; else a sheet of them.
pub record IsPictureOf (first : ℕ) (p : Task) (drawn : List (List Placement)) (picture : List ℕ) : Type 0 where
  pub alone : first ≡ 0 → IsListedAt 0 (λ a. IsLonePicture p a picture) drawn
  pub sheet : 1 ≤ first → IsSheet p drawn picture

-- The picture shows what is to be drawn of the list, of which each is an arrangement of the puzzle, and there is one.
pub record IsPictureFrom (number first : ℕ) (p : Task) (listed : List (List Placement)) (picture : List ℕ) : Type 0 where
  pub some : number < length listed
  pub arrangements : AreArrangements p (to_be_drawn number first listed)
  pub drawn : IsPictureOf first p (to_be_drawn number first listed) picture
