-- Edges of colours.
use Rattle.std.specs.Prelude.{◌≡◌, ◌<◌, ◌++◌, ℕ, List, codes, decimal}
use Rattle.match_puzzle.specs.Puzzle.{Task, mate_of}
use Rattle.show_pictures.specs.declared.edges.Edge.{Edge}
use Rattle.show_pictures.specs.declared.edges.Edge.TheVariants.{Flat, Knob, Hollow}

-- A colour that is its own mate has a flat edge; of two mates the lesser has a knob, and the greater a hollow for it.
abbrev pub HasEdge : Task → (colour : ℕ) → Edge → Type 0
HasEdge p colour Flat = mate_of p colour ≡ colour
HasEdge p colour Knob = colour < mate_of p colour
HasEdge p colour Hollow = mate_of p colour < colour

-- The path has a large arc that goes round so: clockwise by 1, and the other way by 0.
pub record HasArc (sweep : ℕ) (path : List ℕ) : Type 0 where
  pub before : List ℕ
  pub after : List ℕ
  pub arc : path ≡ before ++ (codes " 0 1 " ++ decimal sweep) ++ after

-- The path of a knob goes round it clockwise, as sides run, and that of a hollow the other way.
abbrev pub IsEdgePath : Edge → List ℕ → Type 0
IsEdgePath Flat path = Unit {0}
IsEdgePath Knob path = HasArc 1 path
IsEdgePath Hollow path = HasArc 0 path
