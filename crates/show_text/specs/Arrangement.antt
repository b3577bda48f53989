-- Arrangements, drawn.
use Rattle.std.specs.Prelude.{◌↔◌, ℕ, List, None}
use Rattle.match_puzzle.specs.Arrangement.{Stands}
use Rattle.match_puzzle.specs.Prefix.{Prefix, Has}
use Rattle.match_puzzle.specs.Puzzle.{Task}
use Rattle.match_puzzle.specs.declared.placements.Placement.{Placement}
use Rattle.show_text.specs.Drawing.{IsDrawing}

-- Just what the arrangement has stands in the prefix.
abbrev pub HasJust : List Placement → Prefix → Type 0
HasJust a q = (cell : ℕ) (x : Placement) → Has q cell x ↔ Stands a cell x

-- the text is the board with the arrangement on it, drawn
pub record IsDrawnArrangement (p : Task) (a : List Placement) (text : List ℕ) : Type 0 where
  pub placed : Prefix
  pub just : HasJust a placed
  pub drawn : IsDrawing (record { puzzle = p; placed = placed }) None text
