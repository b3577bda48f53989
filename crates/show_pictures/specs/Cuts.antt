-- Pages of A4 paper with the tiles of a puzzle, to be printed and cut out.
use Rattle.std.specs.Prelude.{◌≡◌, ◌≤◌, ◌*◌, ◌==◌, ◌++◌, ◌∷◌, ℕ, List, Some, codes, decimal, if◌then◌else◌, length, slice_get}
use Rattle.std.specs.List.{flat_map}
use Rattle.match_board.specs.Board.{side_count}
use Rattle.match_board.specs.declared.figures.Figure.{Figure}
use Rattle.match_puzzle.specs.Arrangement.{IsArrangement}
use Rattle.match_puzzle.specs.Puzzle.{Task}
use Rattle.match_puzzle.specs.declared.placements.Placement.{Placement}
use Rattle.show_pictures.specs.Arrows.{AreTileLines}
use Rattle.show_pictures.specs.Pictures.{AreUnturned, IsFullBoard}
use Rattle.show_pictures.specs.Plans.{IsListedAt}
use Rattle.show_pictures.specs.declared.canvases.Site.{Site}

-- How long a tile's side is in a drawing: each side of a square, and the level side of a triangle.
abbrev pub side_length : Figure → ℕ
side_length s = if side_count s == 4 then 80 else 104

-- How a page begins: it is as large as A4 paper, 210 by 297 mm, with `side` units of length to a millimetre.
abbrev pub page_begin : (side : ℕ) → List ℕ
page_begin side =
    codes "<svg class=\"page\" width=\"210mm\" height=\"297mm\" viewBox=\"0 0 " ++ decimal (210 * side)
    ++ 32 ∷ decimal (297 * side) ++ codes "\" role=\"img\">\n"

-- How a group begins in which all lengths are `size` times as long. Where a millimetre has as many units as a side of a
-- tile, such a side is `size` millimetres long there.
abbrev pub scale_begin : (size : ℕ) → List ℕ
scale_begin size = codes "<g transform=\"scale(" ++ decimal size ++ codes ")\">\n"

-- a page, with the tiles that it shows
pub record TilePage : Type 0 where
  pub tiles : List Placement
  pub text : List ℕ

-- The page shows its tiles, of which there is at least one, so large that a side is `size` millimetres long: a part for
-- each side of each tile, in order; behind the parts an arrow for each tile, where tiles may not be turned.
pub record IsTilePage (size : ℕ) (p : Task) (page : TilePage) : Type 0 where
  pub some : 1 ≤ length page.tiles
  pub title : List ℕ
  pub front : List ℕ
  pub left : ℕ
  pub top : ℕ
  pub sites : List Site
  pub room : length sites ≡ length page.tiles
  pub parts : List ℕ
  pub are_parts : AreTileLines p left top sites page.tiles parts
  pub back : List ℕ
  pub written : page.text ≡ page_begin (side_length p.board) ++ title ++ scale_begin size ++ front ++ parts ++ back

-- pages, one behind the other, that together show these tiles, in order, each on one page
pub record AreTilePages (size : ℕ) (p : Task) (tiles : List Placement) (text : List ℕ) : Type 0 where
  pub pages : List TilePage
  pub each : (n : ℕ) (page : TilePage) → slice_get pages n ≡ Some page → IsTilePage size p page
  pub in_order : tiles ≡ flat_map (λ page. page.tiles) pages
  pub written : text ≡ flat_map (λ page. page.text) pages

-- pages with each tile of the puzzle once, in order, unturned
pub record ShowsTiles (size : ℕ) (p : Task) (text : List ℕ) : Type 0 where
  pub tiles : List Placement
  pub are_tiles : AreUnturned (length p.words) tiles
  pub are_pages : AreTilePages size p tiles text

-- a document with such pages
pub record IsCutDocument (size : ℕ) (p : Task) (text : List ℕ) : Type 0 where
  pub before : List ℕ
  pub pages : List ℕ
  pub are_pages : ShowsTiles size p pages
  pub after : List ℕ
  pub written : text ≡ before ++ pages ++ after

-- a document with such pages, and behind them the board with the arrangement
pub record IsCutDocumentWith (size : ℕ) (p : Task) (a : List Placement) (text : List ℕ) : Type 0 where
  pub before : List ℕ
  pub pages : List ℕ
  pub are_pages : ShowsTiles size p pages
  pub between : List ℕ
  pub board : List ℕ
  pub is_board : IsFullBoard p a board
  pub after : List ℕ
  pub written : text ≡ before ++ pages ++ between ++ board ++ after

-- a document with such pages, and behind them the board with the listed arrangement of this number, which is one of the
-- puzzle's
abbrev pub IsCutDocumentFrom : (number size : ℕ) → Task → List (List Placement) → List ℕ → Type 0
IsCutDocumentFrom number size p listed text =
    IsListedAt number (λ a. IsArrangement p a × IsCutDocumentWith size p a text) listed
