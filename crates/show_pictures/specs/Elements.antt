-- Elements of a picture.
use Rattle.std.specs.Prelude.{◌≡◌, ◌⊎◌, ◌+◌, ℕ, List, Some, [], ◌∷◌, ◌++◌, codes, decimal, length, slice_get}
use Rattle.match_board.specs.Board.{side_count, IsBorderPair}
use Rattle.match_puzzle.specs.Puzzle.{Task, HasRule, colour_of}
use Rattle.match_puzzle.specs.declared.placements.Placement.{Placement}
use Rattle.show_pictures.specs.Edges.{HasEdge, IsEdgePath}
use Rattle.show_pictures.specs.Forms.{begin_of}
use Rattle.show_pictures.specs.Joined.{IsJoined, ended}
use Rattle.show_pictures.specs.Palette.{fill_of}
use Rattle.show_pictures.specs.declared.canvases.Site.{Site}
use Rattle.show_pictures.specs.declared.edges.Edge.{Edge}

-- how an element begins that has the fill of a colour and whose path begins at this point
abbrev pub element_begin : Task → (colour x y : ℕ) → List ℕ
element_begin p colour x y =
    codes "<path fill=\"#" ++ fill_of p colour ++ codes "\" d=\"M" ++ decimal x ++ 32 ∷ decimal y

-- The path has the colour's edge.
abbrev pub IsAlong : Task → (colour : ℕ) → List ℕ → Type 0
IsAlong p colour path = (edge : Edge) → HasEdge p colour edge → IsEdgePath edge path

-- an element that begins so, and whose path has the colour's edge
pub record IsElement (p : Task) (colour x y : ℕ) (text : List ℕ) : Type 0 where
  pub rest : List ℕ
  pub begins : text ≡ element_begin p colour x y ++ rest
  pub along : IsAlong p colour rest

-- an element with the fill and the edge of the colour, whose path begins where the side of the site does
abbrev pub IsAtSide : Task → (left top : ℕ) → Site → (side colour : ℕ) → List ℕ → Type 0
IsAtSide p left top site side colour text =
    IsElement p colour (left + site.x + (begin_of site.form side).0) (top + site.y + (begin_of site.form side).1) text

-- the part of a tile at a side: it has the fill of the colour that is shown there
abbrev pub IsPart : Task → (left top : ℕ) → Site → Placement → (side : ℕ) → List ℕ → Type 0
IsPart p left top site x side text = IsAtSide p left top site side (colour_of p x side) text

-- the line with the parts of a tile, side by side
pub record IsPartLine (p : Task) (left top : ℕ) (site : Site) (x : Placement) (text : List ℕ) : Type 0 where
  pub parts : List ℕ
  pub joined : IsJoined (IsPart p left top site x) (side_count p.board) parts
  pub line : text ≡ parts ++ 10 ∷ []

-- the line with the parts of the tile that comes at this place, so turned, at its site
abbrev pub IsPartLineAt : Task → (left top : ℕ) → List Site → List Placement → (n : ℕ) → List ℕ → Type 0
IsPartLineAt p left top sites xs n text =
    (site : Site) (x : Placement) → slice_get sites n ≡ Some site → slice_get xs n ≡ Some x
    → IsPartLine p left top site x text

-- a line with the parts of each tile
abbrev pub ArePartLines : Task → (left top : ℕ) → List Site → List Placement → List ℕ → Type 0
ArePartLines p left top sites xs text = IsJoined (IsPartLineAt p left top sites xs) (length xs) text

-- The side meets nothing, and the border or a clue asks for the colour there.
abbrev pub IsAskedOutside : Task → (cell side colour : ℕ) → Type 0
IsAskedOutside p cell side colour = IsBorderPair p.board cell side × HasRule p cell side colour

-- a band along a side that meets nothing, where a colour is asked for: it has that colour's fill; nothing at the other
-- sides
abbrev pub IsBand : Task → (left top : ℕ) → Site → (cell side : ℕ) → List ℕ → Type 0
IsBand p left top site cell side text =
    ((colour : ℕ) × IsAskedOutside p cell side colour × IsAtSide p left top site side colour text)
    ⊎ (((colour : ℕ) → IsAskedOutside p cell side colour → ⊥) × (text ≡ []))

-- the line with the bands of a cell, side by side, or nothing where it has none
pub record IsBandLine (p : Task) (left top : ℕ) (site : Site) (cell : ℕ) (text : List ℕ) : Type 0 where
  pub bands : List ℕ
  pub joined : IsJoined (IsBand p left top site cell) (side_count p.board) bands
  pub line : text ≡ ended bands

-- the line with the bands of the cell, at its site
abbrev pub IsBandLineAt : Task → (left top : ℕ) → List Site → (cell : ℕ) → List ℕ → Type 0
IsBandLineAt p left top sites cell text =
    (site : Site) → slice_get sites cell ≡ Some site → IsBandLine p left top site cell text

-- a line with the bands of each cell that has some
abbrev pub AreBandLines : Task → (left top : ℕ) → List Site → List ℕ → Type 0
AreBandLines p left top sites text = IsJoined (IsBandLineAt p left top sites) (length sites) text

-- an element whose text is this number
pub record SaysNumber (number : ℕ) (text : List ℕ) : Type 0 where
  pub before : List ℕ
  pub said : text ≡ before ++ (62 ∷ (decimal number ++ codes "</text>"))
