-- What is drawn of clues, in empty cells.
use Rattle.std.specs.Prelude.{◌≡◌, ◌⊎◌, ◌+◌, ℕ, List, Some, [], ◌∷◌, ◌++◌, codes, decimal, length, slice_get}
use Rattle.match_board.specs.Board.{side_count}
use Rattle.match_board.specs.Clues.{AsksByClue}
use Rattle.match_puzzle.specs.Puzzle.{Task}
use Rattle.show_pictures.specs.Elements.{IsAlong, element_begin}
use Rattle.show_pictures.specs.Forms.{begin_of}
use Rattle.show_pictures.specs.Joined.{IsJoined, ended}
use Rattle.show_pictures.specs.declared.canvases.Site.{Site}

-- the size of the pattern of hatched paths, and how it lies
abbrev pub pattern_size : List ℕ
pattern_size = codes "<pattern id=\"clue\" patternUnits=\"userSpaceOnUse\" width=\"10\""

abbrev pub pattern_turn : List ℕ
pattern_turn = codes " height=\"10\" patternTransform=\"rotate(45)\" stroke-opacity=\".6\">"

-- a white and a black stroke side by side, so that it stands out from every fill
abbrev pub white_stroke : List ℕ
white_stroke = codes "<path stroke=\"#fff\" d=\"M4 0v10\"/>"

abbrev pub black_stroke : List ℕ
black_stroke = codes "<path stroke=\"#222\" d=\"M5 0v10\"/></pattern>\n"

-- the pattern
abbrev pub pattern : List ℕ
pattern = pattern_size ++ (pattern_turn ++ (white_stroke ++ black_stroke))

-- how an element begins that is filled with the pattern and whose path begins at this point
abbrev pub hatching_begin : (x y : ℕ) → List ℕ
hatching_begin x y = codes "<path fill=\"url(#clue)\" d=\"M" ++ decimal x ++ 32 ∷ decimal y

-- an element that has the fill of the colour, and whose path begins at this point and has the colour's edge; and the same
-- path once more, filled with the pattern
pub record IsHatched (p : Task) (colour x y : ℕ) (text : List ℕ) : Type 0 where
  pub rest : List ℕ
  pub along : IsAlong p colour rest
  pub written : text ≡ (element_begin p colour x y ++ rest) ++ (hatching_begin x y ++ rest)

-- such elements, whose path begins where the side of the site does
abbrev pub IsHatchedAt : Task → (left top : ℕ) → Site → (side colour : ℕ) → List ℕ → Type 0
IsHatchedAt p left top site side colour text =
    IsHatched p colour (left + site.x + (begin_of site.form side).0) (top + site.y + (begin_of site.form side).1) text

-- the part of a cell at a side of which a clue asks for a colour: it has that colour's fill, and is hatched; nothing at
-- the other sides
abbrev pub IsClued : Task → (left top : ℕ) → Site → (cell side : ℕ) → List ℕ → Type 0
IsClued p left top site cell side text =
    ((colour : ℕ) × AsksByClue p.clues cell side colour × IsHatchedAt p left top site side colour text)
    ⊎ (((colour : ℕ) → AsksByClue p.clues cell side colour → ⊥) × (text ≡ []))

-- the line with these parts of a cell, side by side, or nothing where it has none
pub record IsClueLine (p : Task) (left top : ℕ) (site : Site) (cell : ℕ) (text : List ℕ) : Type 0 where
  pub parts : List ℕ
  pub joined : IsJoined (IsClued p left top site cell) (side_count p.board) parts
  pub line : text ≡ ended parts

-- the line with these parts of the cell, at its site
abbrev pub IsClueLineAt : Task → (left top : ℕ) → List Site → (cell : ℕ) → List ℕ → Type 0
IsClueLineAt p left top sites cell text =
    (site : Site) → slice_get sites cell ≡ Some site → IsClueLine p left top site cell text

-- a line for each cell of which a clue asks for a colour
abbrev pub AreClueLines : Task → (left top : ℕ) → List Site → List ℕ → Type 0
AreClueLines p left top sites text = IsJoined (IsClueLineAt p left top sites) (length sites) text

-- lines with the pattern before them, or nothing where there are none
abbrev pub with_pattern : List ℕ → List ℕ
with_pattern [] = []
with_pattern (first ∷ rest) = pattern ++ first ∷ rest

-- what is drawn of all clues
pub record ShowsClues (p : Task) (left top : ℕ) (sites : List Site) (text : List ℕ) : Type 0 where
  pub lines : List ℕ
  pub are_lines : AreClueLines p left top sites lines
  pub written : text ≡ with_pattern lines
