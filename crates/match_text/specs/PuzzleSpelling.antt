-- The one spelling of a puzzle.
use Rattle.std.specs.Prelude.{◌≡◌, ◌≢◌, ◌<◌, ◌≤◌, ◌==◌, if◌then◌else◌, ℕ, zero, suc, Bool, true, false, List, [], ◌∷◌}
use Rattle.std.specs.Prelude.{◌++◌, length, map, take, drop, codes, decimal}
use Rattle.match_limits.specs.declared.TheConstants.{MOST_LENGTH, MOST_PLACES, MOST_COLOURS, MOST_CELLS}
use Rattle.std.specs.List.{AllByRecursion}
use Rattle.match_board.specs.declared.figures.Figure.{Figure}
use Rattle.match_board.specs.declared.figures.Figure.TheVariants.{Rectangle, Triangle, Hexagon, Shape}
use Rattle.match_board.specs.Board.{MarksItsPlaces}
use Rattle.match_board.specs.Mates.{Mating, IsOfVersion}
use Rattle.match_board.specs.Clues.{Clue}
use Rattle.match_puzzle.specs.Puzzle.{Task}
use Rattle.match_board.specs.Borders.{BorderRule, free, one, each}
use Rattle.match_limits.specs.declared.ranges.Ranges.{Ranges}
use Rattle.match_limits.specs.Ranges.{ranges_of}
use Rattle.text_words.specs.Within.{IsRuleWithin, IsWordWithin, IsClueWithin}
use Rattle.text_words.specs.Spelling.{text_of, colour_word, rule_word, tile_word, asks_word, first_words, count_words}
use Rattle.text_words.specs.Spelling.{end_lines}

abbrev pub mates_words : List ℕ → List (List ℕ)
mates_words mates = codes "mates" ∷ map colour_word mates

-- from version 2 on there is a line for the mates
abbrev pub mates_lines : Mating → List (List (List ℕ))
mates_lines m = if m.version == 1 then [] else mates_words m.mates ∷ []

abbrev pub clue_words : Clue → List (List ℕ)
clue_words c = codes "clue" ∷ decimal c.cell ∷ asks_word c.asks ∷ []

abbrev pub counted_lines : List Clue → List (List (List ℕ))
counted_lines clues = count_words (codes "clues") (length clues) ∷ map clue_words clues

-- version 3 has lines for the clues
abbrev pub clues_lines : ℕ → List Clue → List (List (List ℕ))
clues_lines version clues = if version == 3 then counted_lines clues else []

abbrev pub size_words : Figure → List (List ℕ)
size_words (Rectangle width height) = decimal width ∷ decimal height ∷ []
size_words (Triangle size) = decimal size ∷ []
size_words (Hexagon size) = decimal size ∷ []
size_words (Shape width height mask) = decimal width ∷ decimal height ∷ []

abbrev pub figure_word : Figure → List ℕ
figure_word (Rectangle width height) = codes "rect"
figure_word (Triangle size) = codes "triangle"
figure_word (Hexagon size) = codes "hexagon"
figure_word (Shape width height mask) = codes "shape"

abbrev pub board_words : Figure → List (List ℕ)
board_words board = codes "board" ∷ figure_word board ∷ size_words board

-- a cell, or a place without one
abbrev pub mark_character : Bool → ℕ
mark_character mark = if mark then 35 else 46

abbrev pub row_words : List Bool → List (List ℕ)
row_words row = codes "row" ∷ map mark_character row ∷ []

-- the first `rows` rows of a mask, each of `width` places
abbrev pub row_lines : (width rows : ℕ) → List Bool → List (List (List ℕ))
row_lines width zero mask = []
row_lines width (suc rows) mask = row_words (take width mask) ∷ row_lines width rows (drop width mask)

-- a shape has a line for each of its rows
abbrev pub mask_lines : Figure → List (List (List ℕ))
mask_lines (Rectangle width height) = []
mask_lines (Triangle size) = []
mask_lines (Hexagon size) = []
mask_lines (Shape width height mask) = row_lines width height mask

abbrev pub board_lines : Figure → List (List (List ℕ))
board_lines board = board_words board ∷ mask_lines board

abbrev pub turns_word : Bool → List ℕ
turns_word true = codes "yes"
turns_word false = codes "no"

abbrev pub turns_words : Bool → List (List ℕ)
turns_words turns = codes "turns" ∷ turns_word turns ∷ []

abbrev pub border_words : BorderRule → List (List ℕ)
border_words free = codes "border" ∷ codes "free" ∷ []
border_words (one colour) = codes "border" ∷ codes "one" ∷ colour_word colour ∷ []
border_words (each rules) = codes "border" ∷ codes "each" ∷ map rule_word rules

abbrev pub tile_words : List ℕ → List (List ℕ)
tile_words word = codes "tile" ∷ tile_word word ∷ []

abbrev pub puzzle_lines : Task → List (List (List ℕ))
puzzle_lines p =
    (first_words (codes "match") p.mating.version ∷ [])
    ++ (board_lines p.board ++ ((turns_words p.turns ∷ []) ++ ((border_words p.border ∷ [])
    ++ (mates_lines p.mating ++ (clues_lines p.mating.version p.clues
    ++ ((count_words (codes "tiles") (length p.words) ∷ []) ++ (map tile_words p.words ++ end_lines)))))))

-- a tile by itself
abbrev pub lone_tile_words : List ℕ → List (List ℕ)
lone_tile_words word = tile_word word ∷ []

-- tiles by themselves, the word of one on each line
unfoldable pub tiles_spelling : List (List ℕ) → List ℕ
tiles_spelling words = text_of (map lone_tile_words words)

unfoldable pub puzzle_spelling : Task → List ℕ
puzzle_spelling p = text_of (puzzle_lines p)

-- ---- what has a spelling

-- from 1 to as many as there may be places
abbrev pub IsShapeLength : ℕ → Type 0
IsShapeLength n = (1 ≤ n) × (n ≤ MOST_PLACES)

abbrev pub IsFigureWithin : ℕ → Figure → Type 0
IsFigureWithin version (Rectangle width height) = (width ≤ MOST_LENGTH) × (height ≤ MOST_LENGTH)
IsFigureWithin version (Triangle size) = size ≤ MOST_LENGTH
IsFigureWithin version (Hexagon size) = size ≤ MOST_LENGTH
IsFigureWithin version (Shape width height mask) =
    (2 ≤ version) × IsShapeLength width × IsShapeLength height × MarksItsPlaces (Shape width height mask)

-- There is each colour that the border asks for.
abbrev pub AreRulesWithin : BorderRule → Type 0
AreRulesWithin free = Unit {0}
AreRulesWithin (one colour) = colour < MOST_COLOURS
AreRulesWithin (each rules) = AllByRecursion IsRuleWithin rules

abbrev pub IsBorderWithin : Ranges → BorderRule → Type 0
IsBorderWithin ranges free = Unit {0}
IsBorderWithin ranges (one colour) = colour < MOST_COLOURS
IsBorderWithin ranges (each rules) =
    (0 < length rules) × (length rules ≤ ranges.most_rules) × AllByRecursion IsRuleWithin rules

-- a version, and colours as mates
abbrev pub IsMatingWithin : Mating → Type 0
IsMatingWithin m =
    IsOfVersion m × (length m.mates ≤ MOST_COLOURS) × AllByRecursion (λ colour. colour < MOST_COLOURS) m.mates

-- clues in version 3 alone, as many as a text may have
abbrev pub AreCluesWithin : ℕ → List Clue → Type 0
AreCluesWithin version clues =
    (version ≢ 3 → clues ≡ []) × (length clues ≤ MOST_CELLS) × AllByRecursion IsClueWithin clues

-- The puzzle is within the limits of its text; there may be no such puzzle.
pub record IsTaskWithin (p : Task) : Type 0 where
  pub board : IsFigureWithin p.mating.version p.board
  pub border : IsBorderWithin (ranges_of p.mating.version) p.border
  pub mating : IsMatingWithin p.mating
  pub clues : AreCluesWithin p.mating.version p.clues
  pub some_tiles : 1 ≤ length p.words
  pub few_tiles : length p.words ≤ (ranges_of p.mating.version).most_cells
  pub words : AllByRecursion IsWordWithin p.words
