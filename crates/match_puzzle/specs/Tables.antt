-- What a puzzle keeps looked up.
use Rattle.std.specs.Prelude.{◌≡◌, ◌⊎◌, ◌<◌, ◌≤◌, ◌+◌, ◌*◌, ◌↔◌, ℕ, List, [], Option, None, Some, MatchBool, length, slice_get}
use Rattle.std.specs.Prelude.{false, slice_index, slice_index_or, unwrap_or}
use Rattle.match_limits.specs.declared.TheConstants.{MOST_COLOURS}
use Rattle.match_puzzle.specs.declared.tables.TheConstants.{FIRST_PLACE}
use Rattle.match_board.specs.Board.{cell_count, side_count, Meets, IsBorderPair, IsBorderBefore}
use Rattle.match_board.specs.declared.figures.Figure.{Figure}
use Rattle.match_board.specs.Turns.{IsPeriod}
use Rattle.match_puzzle.specs.Puzzle.{Task, IsPuzzle, word_of, HasRule}
use Rattle.match_puzzle.specs.Colours.{IsColourCount}
use Rattle.match_puzzle.specs.PlacementSets.{AreLegalNumbers, AreUnturnedLegal, AreShowingSets, AreShownColours}
use Rattle.match_puzzle.specs.PlacementSets.{AreMatesShown}
use Rattle.match_puzzle.specs.Prefix.{empty_prefix}
use Rattle.match_puzzle.specs.Partials.{AreAsking}
use Rattle.match_puzzle.specs.declared.tables.Side.{Side}
use Rattle.match_puzzle.specs.declared.tables.Side.TheVariants.{Border, Edge}
use Rattle.match_puzzle.specs.declared.tables.CellSides.{CellSides}
use Rattle.match_puzzle.specs.declared.tables.Tables.{Tables}

-- What the table says of a side is so.
abbrev pub IsSide : Task → (cell side : ℕ) → Side → Type 0
IsSide p cell side (Border rule) =
    IsBorderPair p.board cell side × ((colour : ℕ) → (rule ≡ Some colour) ↔ HasRule p cell side colour)
IsSide p cell side (Edge cell' side' rule) =
    Meets p.board cell side cell' side' × ((c k : ℕ) → Meets p.board cell side c k → (c ≡ cell') × (k ≡ side'))
    × ((colour : ℕ) → (rule ≡ Some colour) ↔ HasRule p cell side colour)

-- the rule of a side
abbrev pub rule_on : Side → Option ℕ
rule_on (Border rule) = rule
rule_on (Edge cell side rule) = rule

-- Where the colour stands that is asked of a side, in a table that begins with each colour at its own place, one more
-- for none, and goes on with four places to a cell: what is asked at the border at its own place, and what is asked of a
-- side that meets another at that one's.
abbrev pub place_asked : Side → ℕ
place_asked (Border None) = MOST_COLOURS
place_asked (Border (Some colour)) = colour
place_asked (Edge cell side rule) = FIRST_PLACE + 4 * cell + side

-- The places are those of the four sides.
abbrev pub AreAskedAt : List Side → (places : List ℕ) → Type 0
AreAskedAt sides places =
    (side : ℕ) → side < 4
    → (x : Side) × (slice_get sides side ≡ Some x) × (slice_index places side ≡ place_asked x)

-- The place is that of the side; of one that the cell doesn't have it is as if nothing were asked.
abbrev pub IsAskedAt : Task → (cell side place : ℕ) → Type 0
IsAskedAt p cell side place =
    (x : Side) × (place ≡ place_asked x)
    × (((side_count p.board ≤ side) × (x ≡ Border None)) ⊎ ((side < side_count p.board) × IsSide p cell side x))

-- The table has all sides of each cell.
pub record AreSides (p : Task) (table : List CellSides) : Type 0 where
  pub long : length table ≡ cell_count p.board
  pub is : (cell side : ℕ) (sides : CellSides) (x : Side) → slice_get table cell ≡ Some sides
      → side < side_count p.board → slice_get sides.sides side ≡ Some x → IsSide p cell side x
  pub outside : (cell side : ℕ) (sides : CellSides) → slice_get table cell ≡ Some sides
      → side_count p.board ≤ side → side < 4 → slice_get sides.sides side ≡ Some (Border None)
  pub asked : (cell : ℕ) (sides : CellSides) → slice_get table cell ≡ Some sides
      → AreAskedAt sides.sides sides.asked_at

-- The side that is met, if one is, stands in the table.
abbrev pub IsInTable : List CellSides → Side → Type 0
IsInTable table (Border rule) = Unit {0}
IsInTable table (Edge cell side rule) = (cell < length table) × (side < 4)

-- The number is the rule of the side that is met, or one more than the colours where that has none.
abbrev pub Begins : List CellSides → Side → ℕ → Type 0
Begins table (Border rule) number = number ≡ MOST_COLOURS
Begins table (Edge cell side rule) number =
    (sides : CellSides) × (slice_get table cell ≡ Some sides)
    × (number ≡ unwrap_or (rule_on (slice_index_or sides.sides side (Border None))) MOST_COLOURS)

-- how many turns of a tile are legal
abbrev pub IsTurnCount : Task → (tile count : ℕ) → Type 0
IsTurnCount p tile count = MatchBool p.turns (IsPeriod (word_of p tile) count) (count ≡ 1)

-- The table has that number for each tile.
pub record AreTurnCounts (p : Task) (table : List ℕ) : Type 0 where
  pub long : length table ≡ length p.words
  pub is : (tile count : ℕ) → slice_get table tile ≡ Some count → IsTurnCount p tile count

-- what holds of each puzzle
pub record IsMade (p : Task) (tables : Tables) : Type 0 where
  pub puzzle : IsPuzzle p
  pub sides : AreSides p tables.sides.items
  pub turn_counts : AreTurnCounts p tables.turn_counts.items
  pub colours : IsColourCount p tables.colours
  pub legal : AreLegalNumbers p tables.sets.legal
  pub unturned : AreUnturnedLegal p
  pub showing : AreShowingSets p.words tables.sets.showing.items
  pub shown : AreShownColours p.words tables.sets.shown.items
  pub asked : AreMatesShown p.mating.mates tables.sets.shown.items tables.sets.asked.items
  pub asks : AreAsking p (empty_prefix p) tables.asks.items
  pub clued : tables.clued ≡ false → p.clues ≡ []

-- Just `number` border pairs come before this pair, `n`.
pub record IsNextNumber (s : Figure) (n : ℕ × ℕ) (number : ℕ) : Type 0 where
  pub pairs : List (ℕ × ℕ)
  pub before : IsBorderBefore s n pairs
  pub count : length pairs ≡ number
  pub small : number ≤ 4 * n.0 + n.1
