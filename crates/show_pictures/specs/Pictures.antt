-- Pictures of arrangements and puzzles.
use Rattle.std.specs.Prelude.{◌≡◌, ◌≢◌, ◌<◌, ◌++◌, ℕ, List, Some, length, slice_get}
use Rattle.match_limits.specs.Listing.{IsListing, ByKey}
use Rattle.match_puzzle.specs.Arrangement.{Stands}
use Rattle.match_puzzle.specs.Fitting.{tile_turn}
use Rattle.match_puzzle.specs.Puzzle.{Task}
use Rattle.match_puzzle.specs.declared.placements.Placement.{Placement}
use Rattle.show_pictures.specs.Arrows.{AreTileLines}
use Rattle.show_pictures.specs.Clued.{ShowsClues}
use Rattle.show_pictures.specs.Elements.{AreBandLines}
use Rattle.show_pictures.specs.Joined.{IsJoined}
use Rattle.show_pictures.specs.declared.canvases.Site.{Site}
use Rattle.show_pictures.specs.Sites.{AreSites}

-- A board with an arrangement, 40 right of and below the picture's corner: bands where the border or a clue asks for a
-- colour of an outer side, and then a part for each side of each cell, in the order of cells and sides, with the colour
-- that is shown there; behind the parts an arrow for each cell, where tiles may not be turned.
pub record IsFullBoard (p : Task) (a : List Placement) (text : List ℕ) : Type 0 where
  pub sites : List Site
  pub are_sites : AreSites p.board sites
  pub bands : List ℕ
  pub are_bands : AreBandLines p 40 40 sites bands
  pub between : List ℕ
  pub parts : List ℕ
  pub are_parts : AreTileLines p 40 40 sites a parts
  pub written : text ≡ bands ++ between ++ parts

-- a picture of an arrangement
pub record IsArrangementPicture (p : Task) (a : List Placement) (text : List ℕ) : Type 0 where
  pub before : List ℕ
  pub board : List ℕ
  pub is_board : IsFullBoard p a board
  pub after : List ℕ
  pub written : text ≡ before ++ board ++ after

-- The arrangement leaves the tile over, and it isn't turned.
pub record IsSpare (p : Task) (a : List Placement) (x : Placement) : Type 0 where
  pub tile : x.tile < length p.words
  pub turn : x.turn ≡ 0
  pub nowhere : (cell : ℕ) (y : Placement) → Stands a cell y → y.tile ≢ x.tile

-- the tiles that the arrangement leaves over, in order, unturned
abbrev pub AreSpare : Task → List Placement → List Placement → Type 0
AreSpare p a xs = IsListing (ByKey tile_turn) (IsSpare p a) xs

-- A picture of an arrangement by itself: the board, and then a part for each side of each tile that is left over, in
-- order, unturned; behind the parts an arrow for each such tile, where tiles may not be turned.
pub record IsLonePicture (p : Task) (a : List Placement) (text : List ℕ) : Type 0 where
  pub before : List ℕ
  pub board : List ℕ
  pub is_board : IsFullBoard p a board
  pub between : List ℕ
  pub tray_left : ℕ
  pub tray_top : ℕ
  pub tray : List Site
  pub tiles : List Placement
  pub room : length tray ≡ length tiles
  pub are_tiles : AreSpare p a tiles
  pub parts : List ℕ
  pub are_parts : AreTileLines p tray_left tray_top tray tiles parts
  pub after : List ℕ
  pub written : text ≡ before ++ board ++ between ++ parts ++ after

-- the first `count` tiles, in order, each unturned
pub record AreUnturned (count : ℕ) (xs : List Placement) : Type 0 where
  pub many : length xs ≡ count
  pub tiles : (tile : ℕ) (x : Placement) → slice_get xs tile ≡ Some x → (x.tile ≡ tile) × (x.turn ≡ 0)

-- An empty board: bands where the border or a clue asks for a colour of an outer side, and behind these, in the cells,
-- what clues ask for.
pub record IsEmptyBoard (p : Task) (left top : ℕ) (sites : List Site) (text : List ℕ) : Type 0 where
  pub bands : List ℕ
  pub are_bands : AreBandLines p left top sites bands
  pub between : List ℕ
  pub clues : List ℕ
  pub are_clues : ShowsClues p left top sites clues
  pub written : text ≡ bands ++ between ++ clues

-- A picture of a puzzle: the empty board, and then a part for each side of each tile, in order, unturned, with the colour
-- that it has there; behind the parts an arrow for each tile, where tiles may not be turned.
pub record IsPuzzlePicture (p : Task) (text : List ℕ) : Type 0 where
  pub left : ℕ
  pub sites : List Site
  pub are_sites : AreSites p.board sites
  pub before : List ℕ
  pub board : List ℕ
  pub is_board : IsEmptyBoard p left 40 sites board
  pub between : List ℕ
  pub tray_left : ℕ
  pub tray_top : ℕ
  pub tray : List Site
  pub tiles : List Placement
  pub room : length tray ≡ length tiles
  pub are_tiles : AreUnturned (length p.words) tiles
  pub parts : List ℕ
  pub are_parts : AreTileLines p tray_left tray_top tray tiles parts
  pub after : List ℕ
  pub written : text ≡ before ++ board ++ between ++ parts ++ after

-- a picture of the arrangement that is listed at this place
abbrev pub IsPictureAt : Task → List (List Placement) → (n : ℕ) → List ℕ → Type 0
IsPictureAt p listed n text = (a : List Placement) → slice_get listed n ≡ Some a → IsArrangementPicture p a text

-- A picture of each of these arrangements, in order, with something before them and behind them.
pub record IsSheet (p : Task) (listed : List (List Placement)) (text : List ℕ) : Type 0 where
  pub before : List ℕ
  pub pictures : List ℕ
  pub drawn : IsJoined (IsPictureAt p listed) (length listed) pictures
  pub after : List ℕ
  pub written : text ≡ before ++ pictures ++ after
