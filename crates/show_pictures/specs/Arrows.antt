-- Arrows that point north, on tiles that may not be turned.
use Rattle.std.specs.Prelude.{◌≡◌, ◌+◌, ◌++◌, ◌∷◌, [], ℕ, List, codes, decimal, if◌then◌else◌}
use Rattle.std.specs.List.{flat_map}
use Rattle.match_puzzle.specs.Puzzle.{Task}
use Rattle.match_puzzle.specs.declared.placements.Placement.{Placement}
use Rattle.show_pictures.specs.Elements.{ArePartLines}
use Rattle.show_pictures.specs.declared.canvases.Site.{Site}

-- the line with the arrow of a tile at the site: its tip lies 12 right of and 6 below the corner of the box
abbrev pub arrow_line : (left top : ℕ) → Site → List ℕ
arrow_line left top site =
    codes "<path d=\"M" ++ decimal (left + site.x + 12) ++ 32 ∷ decimal (top + site.y + 6)
    ++ codes "l6 8h-4v7h-4v-7h-4z\"/>\n"

-- a line for each site, where tiles may not be turned, and none where they may
abbrev pub arrow_lines : Task → (left top : ℕ) → List Site → List ℕ
arrow_lines p left top sites = if p.turns then [] else flat_map (arrow_line left top) sites

-- a line with the parts of each tile, and behind these its arrow, where tiles may not be turned
pub record AreTileLines (p : Task) (left top : ℕ) (sites : List Site) (xs : List Placement)
    (text : List ℕ) : Type 0 where
  pub parts : List ℕ
  pub are_parts : ArePartLines p left top sites xs parts
  pub between : List ℕ
  pub written : text ≡ parts ++ between ++ arrow_lines p left top sites
