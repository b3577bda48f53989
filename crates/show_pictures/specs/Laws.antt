-- What follows for every picture.
use Rattle.std.specs.Prelude.{◌≡◌, ◌⊎◌, ◌<◌, ◌+◌, ◌==◌, ℕ, List, Some, if◌then◌else◌, slice_get}
use Rattle.match_board.specs.Board.{Meets}
use Rattle.match_board.specs.declared.figures.Figure.{Figure}
use Rattle.match_limits.specs.declared.TheConstants.{MOST_COLOURS}
use Rattle.match_puzzle.specs.Arrangement.{IsArrangement}
use Rattle.match_puzzle.specs.Puzzle.{Task, IsPuzzle, colour_of, mate_of}
use Rattle.match_puzzle.specs.declared.placements.Placement.{Placement}
use Rattle.show_pictures.specs.Edges.{HasEdge}
use Rattle.show_pictures.specs.Forms.{begin_of}
use Rattle.show_pictures.specs.Palette.{fill_of}
use Rattle.show_pictures.specs.declared.canvases.Site.{Site}
use Rattle.show_pictures.specs.declared.edges.Edge.{Edge}
use Rattle.show_pictures.specs.declared.edges.Edge.TheVariants.{Flat, Knob, Hollow}
use Rattle.show_pictures.specs.declared.forms.Form.{Form}
use Rattle.show_pictures.specs.declared.forms.Form.TheVariants.{Square, Up, Down}
use Rattle.show_pictures.specs.Sites.{IsSite}

-- ---- fills

-- Of a puzzle colours that have one fill are one, or mates.
abbrev pub FillLaw : Type 0
FillLaw = (p : Task) (colour other : ℕ) → IsPuzzle p → colour < MOST_COLOURS → other < MOST_COLOURS
    → fill_of p colour ≡ fill_of p other → (colour ≡ other) ⊎ (colour ≡ mate_of p other)

-- ---- sides that meet

-- Edges that fit: two flat ones, or a knob and a hollow.
abbrev pub FitTogether : Edge → Edge → Type 0
FitTogether Flat Flat = Unit {0}
FitTogether Flat Knob = ⊥
FitTogether Flat Hollow = ⊥
FitTogether Knob Flat = ⊥
FitTogether Knob Knob = ⊥
FitTogether Knob Hollow = Unit {0}
FitTogether Hollow Flat = ⊥
FitTogether Hollow Knob = Unit {0}
FitTogether Hollow Hollow = ⊥

-- In an arrangement sides that meet have one fill, and edges that fit.
abbrev pub FittingLaw : Type 0
FittingLaw = (p : Task) (a : List Placement) (cell side cell' side' : ℕ) (x y : Placement) (edge edge' : Edge)
    → IsPuzzle p → IsArrangement p a → Meets p.board cell side cell' side'
    → slice_get a cell ≡ Some x → slice_get a cell' ≡ Some y
    → HasEdge p (colour_of p x side) edge → HasEdge p (colour_of p y side') edge'
    → (fill_of p (colour_of p x side) ≡ fill_of p (colour_of p y side')) × FitTogether edge edge'

-- Where a side ends: where the next one begins, clockwise.
abbrev pub end_of : Form → (side : ℕ) → ℕ × ℕ
end_of Square side = begin_of Square (if side == 3 then 0 else side + 1)
end_of Up side = begin_of Up (if side == 2 then 0 else side + 1)
end_of Down side = begin_of Down (if side == 2 then 0 else side + 1)

-- So far from the one site, and so far from the other, there is one point.
pub record AreOnePoint (site : Site) (offset : ℕ × ℕ) (site' : Site) (offset' : ℕ × ℕ) : Type 0 where
  pub x : site.x + offset.0 ≡ site'.x + offset'.0
  pub y : site.y + offset.1 ≡ site'.y + offset'.1

-- Each of the two sides begins where the other ends.
pub record IsSeam (site : Site) (side : ℕ) (site' : Site) (side' : ℕ) : Type 0 where
  pub begins : AreOnePoint site (begin_of site.form side) site' (end_of site'.form side')
  pub ends : AreOnePoint site (end_of site.form side) site' (begin_of site'.form side')

-- Sides that meet lie on each other.
abbrev pub SeamLaw : Type 0
SeamLaw = (s : Figure) (cell side cell' side' : ℕ) (site site' : Site) → Meets s cell side cell' side'
    → IsSite s cell site → IsSite s cell' site' → IsSeam site side site' side'
