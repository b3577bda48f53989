-- The fills of colours.
use Rattle.std.specs.Prelude.{◌≡◌, ◌≢◌, ◌<◌, ℕ, List, [], codes, length, min, slice_index_or}
use Rattle.match_limits.specs.declared.TheConstants.{MOST_COLOURS}
use Rattle.match_puzzle.specs.Puzzle.{Task, mate_of}
use Rattle.show_pictures.specs.declared.palette.TheConstants.{FILLS}

-- the fill of a colour: mates have that of the lesser
abbrev pub fill_of : Task → (colour : ℕ) → List ℕ
fill_of p colour = slice_index_or FILLS (min colour (mate_of p colour)) []

-- There is a fill for each colour, any two of them differ, and none is the paper's.
pub record PaletteLaw : Type 0 where
  pub many : length FILLS ≡ MOST_COLOURS
  pub differ : (colour other : ℕ) → colour < MOST_COLOURS → other < MOST_COLOURS
      → slice_index_or FILLS colour [] ≡ slice_index_or FILLS other [] → colour ≡ other
  pub stand_out : (colour : ℕ) → colour < MOST_COLOURS → slice_index_or FILLS colour [] ≢ codes "fff"
