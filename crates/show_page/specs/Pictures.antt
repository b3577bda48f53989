-- The pictures of a list that a page shows.
use Rattle.std.specs.Prelude.{◌≡◌, ◌≤◌, ◌<◌, ℕ, List, [], length}
use Rattle.match_puzzle.specs.Puzzle.{Task}
use Rattle.match_puzzle.specs.declared.placements.Placement.{Placement}
use Rattle.show_pictures.specs.Pictures.{IsLonePicture, IsPuzzlePicture, IsSheet}
use Rattle.show_pictures.specs.Plans.{IsListedAt}

-- a picture of the first that is listed, by itself, or of the puzzle where none is
pub record IsFirstPicture (p : Task) (listed : List (List Placement)) (text : List ℕ) : Type 0 where
  pub some : 1 ≤ length listed → IsListedAt 0 (λ a. IsLonePicture p a text) listed
  pub none : length listed ≡ 0 → IsPuzzlePicture p text

-- a sheet of these, or nothing where they are less than two
pub record IsSheetOf (p : Task) (drawn : List (List Placement)) (text : List ℕ) : Type 0 where
  pub several : 2 ≤ length drawn → IsSheet p drawn text
  pub few : length drawn < 2 → text ≡ []
