-- What a puzzle asks.
use Rattle.std.specs.Prelude.{◌≡◌, ◌<◌, ◌≤◌, ◌⊎◌, ℕ, Bool, true, List, [], Some, MatchBool, All, map, max, length}
use Rattle.std.specs.Prelude.{slice_get, slice_index_or}
use Rattle.match_limits.specs.declared.TheConstants.{MOST_COLOURS, MOST_TILES}
use Rattle.match_board.specs.Board.{cell_count, side_count, IsBoard, IsShape, IsBorderPair}
use Rattle.match_board.specs.Board.{second_figure}
use Rattle.match_board.specs.declared.figures.Figure.{Figure}
use Rattle.match_board.specs.declared.figures.Figure.TheVariants.{Rectangle, Triangle, Hexagon, Shape}
use Rattle.match_board.specs.Turns.{shown, IsPeriod}
use Rattle.match_board.specs.Tile.{word}
use Rattle.match_board.specs.declared.tiles.Tile.{Tile}
use Rattle.match_board.specs.Borders.{BorderRule, rule_of, Asks, StandsInRule, IsAsLongAsBorder}
use Rattle.match_board.specs.Mates.{Mating, IsMating, mate_in, mating_of, unmated, mated}
use Rattle.match_board.specs.Clues.{Clue, clue_of, AsksByClue}
use Rattle.match_board.specs.declared.borders.Border.{Border}
use Rattle.match_board.specs.declared.clues.Clue.{Clue as BoardClue}
use Rattle.match_puzzle.specs.declared.placements.Placement.{Placement}
use Rattle.match_puzzle.specs.declared.rules.Rules.{Rules}

-- a puzzle: its board, whether tiles may be turned, what the border asks, the mates of colours, clues, and the tiles'
-- words
pub record Task : Type 0 where
  pub board : Figure
  pub turns : Bool
  pub border : BorderRule
  pub mating : Mating
  pub clues : List Clue
  pub words : List (List ℕ)

-- the word of a tile
abbrev pub word_of : Task → ℕ → List ℕ
word_of p tile = slice_index_or p.words tile []

-- the colour that a placed tile shows on a side
unfoldable pub colour_of : Task → Placement → ℕ → ℕ
colour_of p x side = shown (word_of p x.tile) x.turn side

-- the mate of a colour
abbrev pub mate_of : Task → ℕ → ℕ
mate_of p colour = mate_in p.mating.mates colour

-- Sides that show these colours match: the one shows the mate of what the other shows.
abbrev pub GoTogether : Task → (colour other : ℕ) → Type 0
GoTogether p colour other = colour ≡ mate_of p other

-- The turn is below the word's period.
unfoldable pub IsBelowPeriod : List ℕ → ℕ → Type 0
IsBelowPeriod word turn = (period : ℕ) × IsPeriod word period × (turn < period)

-- a turn that the puzzle allows
abbrev pub IsLegalTurn : Task → Placement → Type 0
IsLegalTurn p x = MatchBool p.turns (IsBelowPeriod (word_of p x.tile) x.turn) (x.turn ≡ 0)

-- a tile of the puzzle, turned as the puzzle allows
pub record IsLegal (p : Task) (x : Placement) : Type 0 where
  pub tile : x.tile < length p.words
  pub turn : IsLegalTurn p x

-- the colour that the border or a clue asks of a side
pub record HasRule (p : Task) (cell side colour : ℕ) : Type 0 where
  pub cell_in : cell < cell_count p.board
  pub side_in : side < side_count p.board
  pub asked : (IsBorderPair p.board cell side × Asks p.board p.border cell side colour)
      ⊎ AsksByClue p.clues cell side colour

-- clues of cells of the board, rising, with a cell's sides; colours that there are; one rule for a side
pub record AreClues (p : Task) : Type 0 where
  pub cells : (n : ℕ) (c : Clue) → slice_get p.clues n ≡ Some c → c.cell < cell_count p.board
  pub rising : (n m : ℕ) (c d : Clue) → slice_get p.clues n ≡ Some c → slice_get p.clues m ≡ Some d → n < m
      → c.cell < d.cell
  pub sides : (n : ℕ) (c : Clue) → slice_get p.clues n ≡ Some c → length c.asks ≡ side_count p.board
  pub colours : (cell side colour : ℕ) → AsksByClue p.clues cell side colour → colour < MOST_COLOURS
  pub agree : (cell side colour other : ℕ) → HasRule p cell side colour → HasRule p cell side other → colour ≡ other

-- at least as many tiles as cells, and no more than there are numbers for; before version 3 just as many
pub record AreEnough (version cells tiles : ℕ) : Type 0 where
  pub enough : cells ≤ tiles
  pub few : tiles ≤ MOST_TILES
  pub as_many : version < 3 → tiles ≡ cells

-- Each tile has to stand: there are as many as cells.
abbrev pub AllHaveToStand : Task → Type 0
AllHaveToStand p = length p.words ≡ cell_count p.board

-- enough tiles, with as many sides as a cell; triangles may be turned; colours that there are; a rule for each border
-- pair; each colour the mate of its mate; clues in version 3 alone, and a shape from version 2 on
pub record IsPuzzle (p : Task) : Type 0 where
  pub board : IsBoard p.board
  pub triangles : side_count p.board ≡ 3 → p.turns ≡ true
  pub tiles : AreEnough p.mating.version (cell_count p.board) (length p.words)
  pub sides : (tile : ℕ) → tile < length p.words → length (word_of p tile) ≡ side_count p.board
  pub tile_colours : (tile : ℕ) → tile < length p.words → All (λ colour. colour < MOST_COLOURS) (word_of p tile)
  pub border_colours : (place colour : ℕ) → StandsInRule p.border place colour → colour < MOST_COLOURS
  pub border : IsAsLongAsBorder p.board p.border
  pub mating : IsMating p.mating
  pub shapes : IsShape p.board → 2 ≤ p.mating.version
  pub clues : AreClues p
  pub without : p.mating.version < 3 → p.clues ≡ []

-- the puzzle of a board, clues and tiles
abbrev pub task_with : Figure → Bool → Border → Mating → List BoardClue → List Tile → Task
task_with board turns border mating clues tiles = record {
  board = board;
  turns = turns;
  border = rule_of border;
  mating = mating;
  clues = map clue_of clues;
  words = map word tiles;
}

-- the puzzle of a board and tiles, without clues
abbrev pub task_of : Figure → Bool → Border → Mating → List Tile → Task
task_of board turns border mating tiles = task_with board turns border mating [] tiles

-- the puzzle of this version of a board, rules and tiles
abbrev pub task_by : Figure → Rules → (version : ℕ) → List Tile → Task
task_by board rules version tiles =
    task_with board rules.turns rules.border.now (mating_of version rules.mates.now) rules.clues.now tiles

-- the mates of a puzzle that is made without a list of them: a shape wants version 2
abbrev pub mating_for : Figure → Mating
mating_for (Rectangle width height) = unmated
mating_for (Triangle size) = unmated
mating_for (Hexagon size) = unmated
mating_for (Shape width height mask) = mated []

-- the puzzle of version 2 at least with the same mates, a shape in place of a rectangle, and otherwise the same
abbrev pub second_form_of : Task → Task
second_form_of p = record {
  board = second_figure p.board;
  turns = p.turns;
  border = p.border;
  mating = mating_of (max 2 p.mating.version) p.mating.mates;
  clues = p.clues;
  words = p.words;
}
