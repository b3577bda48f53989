-- Where cells are drawn.
use Rattle.std.specs.Prelude.{◌≡◌, ◌⊎◌, ◌+◌, ◌*◌, ℕ, List, Some, length, slice_get}
use Rattle.match_board.specs.Board.{cell_count, StandsAt, PointsUp, PointsDown}
use Rattle.match_board.specs.declared.figures.Figure.{Figure}
use Rattle.match_board.specs.declared.figures.Figure.TheVariants.{Rectangle, Triangle, Hexagon, Shape}
use Rattle.show_text.specs.Triangles.{rows_in}
use Rattle.show_pictures.specs.declared.canvases.Site.{Site}
use Rattle.show_pictures.specs.declared.forms.Form.{Form}
use Rattle.show_pictures.specs.declared.forms.Form.TheVariants.{Square, Up, Down}

-- the shape in which the cell at a place is drawn
abbrev pub IsFormAt : Figure → (row place : ℕ) → Form → Type 0
IsFormAt (Rectangle width height) row place form = form ≡ Square
IsFormAt (Triangle size) row place form =
    (PointsUp (Triangle size) row place × (form ≡ Up)) ⊎ (PointsDown (Triangle size) row place × (form ≡ Down))
IsFormAt (Hexagon size) row place form =
    (PointsUp (Hexagon size) row place × (form ≡ Up)) ⊎ (PointsDown (Hexagon size) row place × (form ≡ Down))
IsFormAt (Shape width height mask) row place form = form ≡ Square

-- how far right of the board's corner the box round the cell at a place begins
abbrev pub box_x : Figure → (row place : ℕ) → ℕ
box_x (Rectangle width height) row place = 80 * place
box_x (Triangle size) row place = 52 * (rows_in size row + place)
box_x (Hexagon size) row place = 52 * (rows_in size row + place)
box_x (Shape width height mask) row place = 80 * place

-- how far below it
abbrev pub box_y : Figure → (row : ℕ) → ℕ
box_y (Rectangle width height) row = 80 * row
box_y (Triangle size) row = 90 * row
box_y (Hexagon size) row = 90 * row
box_y (Shape width height mask) row = 80 * row

-- The site is that of the cell at the place.
pub record IsSiteAt (s : Figure) (row place : ℕ) (site : Site) : Type 0 where
  pub form : IsFormAt s row place site.form
  pub x : site.x ≡ box_x s row place
  pub y : site.y ≡ box_y s row

-- the site of a cell
pub record IsSite (s : Figure) (cell : ℕ) (site : Site) : Type 0 where
  pub row : ℕ
  pub place : ℕ
  pub stands : StandsAt s cell row place
  pub at : IsSiteAt s row place site

-- the sites of the first `count` cells
pub record AreSitesTo (s : Figure) (count : ℕ) (sites : List Site) : Type 0 where
  pub many : length sites ≡ count
  pub each : (cell : ℕ) (site : Site) → slice_get sites cell ≡ Some site → IsSite s cell site

-- the sites of all cells, by number
abbrev pub AreSites : Figure → List Site → Type 0
AreSites s sites = AreSitesTo s (cell_count s) sites
