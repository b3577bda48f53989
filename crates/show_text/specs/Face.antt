-- What is seen of a cell.
use Rattle.std.specs.Prelude.{◌≡◌, ◌⊎◌, ◌<◌, ◌↔◌, ℕ, Option, Some, None, IsTrue, slice_index}
use Rattle.match_board.specs.Board.{side_count}
use Rattle.match_puzzle.specs.Puzzle.{Task, HasRule, colour_of}
use Rattle.match_puzzle.specs.Prefix.{Layout, Has, IsFree}
use Rattle.match_puzzle.specs.declared.placements.Placement.{Placement}
use Rattle.text_words.specs.Spelling.{colour_character}
use Rattle.show_text.specs.declared.faces.Face.{Face}

-- The sign at a side of an empty cell: the colour that the border or a clue asks of it, or a space where none is asked.
abbrev pub IsRuleSign : Task → (cell side sign : ℕ) → Type 0
IsRuleSign p cell side sign =
    ((colour : ℕ) × HasRule p cell side colour × (sign ≡ colour_character colour))
    ⊎ (((colour : ℕ) → HasRule p cell side colour → ⊥) × (sign ≡ 32))

-- A tile stands at the cell: its number is seen, and the colours that it shows.
pub record ShowsTile (q : Layout) (face : Face) : Type 0 where
  pub placement : Placement
  pub stands : Has q.placed face.cell placement
  pub tile : face.tile ≡ Some placement.tile
  pub signs : (side : ℕ) → side < side_count q.puzzle.board
      → slice_index face.signs side ≡ colour_character (colour_of q.puzzle placement side)

-- Nothing stands at the cell: what the border and a clue ask of it is seen.
pub record ShowsRules (q : Layout) (face : Face) : Type 0 where
  pub free : IsFree q.placed face.cell
  pub tile : face.tile ≡ None
  pub signs : (side : ℕ) → side < side_count q.puzzle.board
      → IsRuleSign q.puzzle face.cell side (slice_index face.signs side)

-- What is seen of a cell of a partial arrangement, where this cell is marked.
pub record IsFace (q : Layout) (mark : Option ℕ) (face : Face) : Type 0 where
  pub marked : IsTrue face.marked ↔ (mark ≡ Some face.cell)
  pub shows : ShowsTile q face ⊎ ShowsRules q face
