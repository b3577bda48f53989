-- The text of a puzzle.
use Rattle.std.specs.Prelude.{◌≡◌, ◌≤◌, ◌*◌, ◌==◌, ◌&&◌, nat_le, ℕ, Bool, true, false, List, [], Result, Ok, Err, codes}
use Rattle.std.specs.Prelude.{◌++◌, length, map, if◌then◌else◌}
use Rattle.std.specs.List.{flat_map}
use Rattle.match_limits.specs.declared.TheConstants.{MOST_LENGTH, MOST_PLACES, MOST_COLOURS, MOST_CELLS, LAST_CELL}
use Rattle.std.specs.Str.{bytes_eq}
use Rattle.match_board.specs.Board.{cell_count, HasRoom, IsBoard, shape_of}
use Rattle.match_board.specs.declared.figures.Figure.{Figure}
use Rattle.match_board.specs.declared.figures.Figure.TheVariants as figures
use Rattle.match_limits.specs.First.{IsFirst}
use Rattle.match_board.specs.Tile.{word}
use Rattle.match_board.specs.declared.boards.BoardFault.{BoardFault}
use Rattle.match_board.specs.declared.boards.BoardFault.TheVariants.{Empty, TooLarge}
use Rattle.match_board.specs.Mates.{Mating, unmated, mating_of}
use Rattle.match_board.specs.Clues.{Clue, clue_of}
use Rattle.match_puzzle.specs.Puzzle.{Task, IsPuzzle}
use Rattle.match_board.specs.Borders.{BorderRule, free, one, each, rule_of}
use Rattle.match_puzzle.specs.PuzzleFaults.{PuzzleFails, puzzle_rank}
use Rattle.text_words.specs.declared.faults.TextFault.{TextFault}
use Rattle.text_words.specs.declared.faults.TextKind.{TextKind}
use Rattle.text_words.specs.declared.faults.TextKind.TheVariants.{Word}
use Rattle.text_words.specs.declared.faults.ReadFault.{ReadFault}
use Rattle.match_text.specs.declared.faults.PuzzleTextFault.{PuzzleTextFault}
use Rattle.match_text.specs.declared.faults.PuzzleTextFault.TheVariants as faults
use Rattle.match_text.specs.declared.puzzles.BoardKind.{BoardKind}
use Rattle.match_text.specs.declared.puzzles.BoardKind.TheVariants.{Rectangle, Triangle, Hexagon, Shape}
use Rattle.match_text.specs.declared.puzzles.BoardLine.{BoardLine}
use Rattle.match_text.specs.declared.puzzles.BoardLine.TheVariants as lines
use Rattle.match_text.specs.declared.puzzles.BorderKind.{BorderKind}
use Rattle.match_text.specs.declared.puzzles.BorderKind.TheVariants as kinds
use Rattle.match_text.specs.declared.puzzles.PuzzleText as code
use Rattle.match_limits.specs.declared.ranges.Ranges.{Ranges}
use Rattle.match_limits.specs.Ranges.{ranges_of}
use Rattle.text_words.specs.PlainWords.{fixed_in, number_in, version_in}
use Rattle.text_words.specs.Words.{marks_in, colour_in, rule_in, tile_in, clue_in}
use Rattle.text_words.specs.Place.{Place, Read, ◌>>=◌, give, line_of, word_by, entries, some_entries, counted}
use Rattle.text_words.specs.Place.{closing, times, start, value_of, Fails}

-- ---- the first line

-- There are three versions.
abbrev pub IsPuzzleVersion : ℕ → Type 0
IsPuzzleVersion version = (1 ≤ version) × (version ≤ 3)

-- the version, 3 or one of those that other texts have too
abbrev pub puzzle_version_in : List ℕ → Result ℕ TextKind
puzzle_version_in word = if bytes_eq word (codes "3") then Ok 3 else version_in word

unfoldable pub match_line : Read ℕ
match_line = line_of (do
  _ ← word_by (fixed_in (codes "match"))
  word_by puzzle_version_in)

-- ---- the board

-- the kinds of board by their words; there are shapes from version 2 on
abbrev pub board_kind_in : ℕ → List ℕ → Result BoardKind TextKind
board_kind_in version word =
    if bytes_eq word (codes "rect") then Ok Rectangle
    else (if bytes_eq word (codes "triangle") then Ok Triangle
    else (if bytes_eq word (codes "hexagon") then Ok Hexagon
    else (if nat_le 2 version && bytes_eq word (codes "shape") then Ok Shape else Err Word)))

-- how large a board of this kind is
unfoldable pub board_size : BoardKind → Read BoardLine
board_size Rectangle = do
  width ← word_by (number_in 0 MOST_LENGTH)
  height ← word_by (number_in 0 MOST_LENGTH)
  give (lines.Rectangle width height)
board_size Triangle = do
  size ← word_by (number_in 0 MOST_LENGTH)
  give (lines.Triangle size)
board_size Hexagon = do
  size ← word_by (number_in 0 MOST_LENGTH)
  give (lines.Hexagon size)
board_size Shape = do
  width ← word_by (number_in 1 MOST_PLACES)
  height ← word_by (number_in 1 MOST_PLACES)
  give (lines.Shape width height)

unfoldable pub board_line : ℕ → Read BoardLine
board_line version = line_of (do
  _ ← word_by (fixed_in (codes "board"))
  kind ← word_by (board_kind_in version)
  board_size kind)

-- a row of a shape
unfoldable pub row_line : ℕ → Read (List Bool)
row_line width = line_of (do
  _ ← word_by (fixed_in (codes "row"))
  word_by (marks_in width))

-- the shape of which these rows have the marks
abbrev pub shape_by : (width height : ℕ) → List (List Bool) → Figure
shape_by width height rows = shape_of width height (flat_map (λ row. row) rows)

unfoldable pub shape_rows : (width height : ℕ) → Read Figure
shape_rows width height = do
  rows ← times height (row_line width)
  give (shape_by width height rows)

-- the rows of a shape, and of another board no further line
unfoldable pub board_rows : BoardLine → Read Figure
board_rows (lines.Rectangle width height) = give (figures.Rectangle width height)
board_rows (lines.Triangle size) = give (figures.Triangle size)
board_rows (lines.Hexagon size) = give (figures.Hexagon size)
board_rows (lines.Shape width height) = shape_rows width height

unfoldable pub board_part : ℕ → Read Figure
board_part version = do
  line ← board_line version
  board_rows line

-- ---- turns

-- whether tiles may be turned, by its word
abbrev pub turns_in : List ℕ → Result Bool TextKind
turns_in word =
    if bytes_eq word (codes "yes") then Ok true else (if bytes_eq word (codes "no") then Ok false else Err Word)

unfoldable pub turns_line : Read Bool
turns_line = line_of (do
  _ ← word_by (fixed_in (codes "turns"))
  word_by turns_in)

-- ---- the border

-- the kinds of border by their words
abbrev pub border_kind_in : List ℕ → Result BorderKind TextKind
border_kind_in word =
    if bytes_eq word (codes "free") then Ok kinds.Free
    else (if bytes_eq word (codes "one") then Ok kinds.One
    else (if bytes_eq word (codes "each") then Ok kinds.Each else Err Word))

-- what a border of this kind asks for
unfoldable pub border_rule : Ranges → BorderKind → Read BorderRule
border_rule ranges kinds.Free = give free
border_rule ranges kinds.One = do
  colour ← word_by colour_in
  give (one colour)
border_rule ranges kinds.Each = do
  rules ← some_entries ranges.most_rules rule_in
  give (each rules)

unfoldable pub border_line : Ranges → Read BorderRule
border_line ranges = line_of (do
  _ ← word_by (fixed_in (codes "border"))
  kind ← word_by border_kind_in
  border_rule ranges kind)

-- ---- mates

unfoldable pub mates_line : Read (List ℕ)
mates_line = line_of (do
  _ ← word_by (fixed_in (codes "mates"))
  entries MOST_COLOURS colour_in)

abbrev pub mated_part : ℕ → Read Mating
mated_part version = do
  mates ← mates_line
  give (mating_of version mates)

-- the mates, for which there is a line from version 2 on
unfoldable pub mating_part : ℕ → Read Mating
mating_part version = if version == 1 then give unmated else mated_part version

-- ---- clues

unfoldable pub clue_line : Read Clue
clue_line = line_of (do
  _ ← word_by (fixed_in (codes "clue"))
  cell ← word_by (number_in 0 LAST_CELL)
  word_by (clue_in cell))

unfoldable pub counted_clues : Read (List Clue)
counted_clues = do
  count ← counted (codes "clues") 0 MOST_CELLS
  times count clue_line

-- the clues, for which version 3 has lines
unfoldable pub clues_part : ℕ → Read (List Clue)
clues_part version = if version == 3 then counted_clues else give []

-- ---- the tiles, and the whole

unfoldable pub tile_line : Read (List ℕ)
tile_line = line_of (do
  _ ← word_by (fixed_in (codes "tile"))
  word_by tile_in)

unfoldable pub puzzle_text : Read Task
puzzle_text = do
  version ← match_line
  board ← board_part version
  turns ← turns_line
  border ← border_line (ranges_of version)
  mating ← mating_part version
  clues ← clues_part version
  count ← counted (codes "tiles") 1 (ranges_of version).most_cells
  words ← times count tile_line
  _ ← closing
  give (record { board = board; turns = turns; border = border; mating = mating; clues = clues; words = words })

-- The puzzle that a text asks for, or the text's first fault. There may be no such puzzle.
unfoldable pub puzzle_of : List ℕ → Result Task TextFault
puzzle_of text = value_of (puzzle_text (start text))

-- the board of a line and of the marks that follow it
abbrev pub figure_of : BoardLine → List Bool → Figure
figure_of (lines.Rectangle width height) marks = figures.Rectangle width height
figure_of (lines.Triangle size) marks = figures.Triangle size
figure_of (lines.Hexagon size) marks = figures.Hexagon size
figure_of (lines.Shape width height) marks = shape_of width height marks

-- A shape has a mark for each place.
abbrev pub HasItsMarks : BoardLine → List Bool → Type 0
HasItsMarks (lines.Rectangle width height) marks = Unit {0}
HasItsMarks (lines.Triangle size) marks = Unit {0}
HasItsMarks (lines.Hexagon size) marks = Unit {0}
HasItsMarks (lines.Shape width height) marks = length marks ≡ height * width

-- The marks of the row that was read came behind those that there were.
abbrev pub AddsRow : Result (Unit {0}) ReadFault → (before after : List Bool) → Place
    → Result (List Bool × Place) TextFault → Type 0
AddsRow (Ok x) before after place read =
    (row : List Bool) × (after ≡ before ++ row) × (read ≡ Ok (row, place))
AddsRow (Err fault) before after place read = Fails fault read

-- what was read, without where it lies in memory
abbrev pub view_of : code.PuzzleText → Task
view_of t =
    record {
      board = figure_of t.board t.marks.items;
      turns = t.turns;
      border = rule_of t.border;
      mating = mating_of t.version t.mates.items;
      clues = map clue_of t.clues.items;
      words = map word t.tiles.items;
    }

-- ---- boards and puzzles that there are

-- There is no such board.
abbrev pub BoardFails : Figure → BoardFault → Type 0
BoardFails s Empty = cell_count s ≡ 0
BoardFails s TooLarge = (1 ≤ cell_count s) × (HasRoom s → ⊥)

-- What reading a puzzle comes to: the puzzle, or the first fault of the text, else of the board, else of the puzzle.
-- Of want of memory nothing is said.
abbrev pub PuzzleReads : List ℕ → Result Task PuzzleTextFault → Type 0
PuzzleReads text (Ok p) = (puzzle_of text ≡ Ok p) × IsPuzzle p
PuzzleReads text (Err (faults.Text fault)) = puzzle_of text ≡ Err fault
PuzzleReads text (Err (faults.Board fault)) = (said : Task) × (puzzle_of text ≡ Ok said) × BoardFails said.board fault
PuzzleReads text (Err (faults.Puzzle fault)) =
    (said : Task) × (puzzle_of text ≡ Ok said) × IsBoard said.board × IsFirst puzzle_rank (PuzzleFails said) fault
PuzzleReads text (Err faults.Memory) = Unit {0}

-- What a call returned is this outcome of a text and of making the puzzle. Of want of memory nothing is said.
abbrev pub PuzzleGives : Result Task PuzzleTextFault → Result Task TextFault → Type 0
PuzzleGives (Ok p) outcome = outcome ≡ Ok p
PuzzleGives (Err (faults.Text fault)) outcome = outcome ≡ Err fault
PuzzleGives (Err faults.Memory) outcome = Unit {0}
PuzzleGives (Err fault) outcome = ⊥
