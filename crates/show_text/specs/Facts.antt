-- What is known of a puzzle before it is solved.
use Rattle.std.specs.Prelude.{◌≡◌, ◌==◌, ℕ, List, [], ◌∷◌, ◌++◌, Option, Some, None, Bool, true, false, if◌then◌else◌}
use Rattle.std.specs.Prelude.{codes, count_by, decimal, length, nat_lt, sum_by}
use Rattle.std.specs.List.{flat_map, range_with_len}
use Rattle.match_board.specs.Board.{cell_count, IsBorderOrder}
use Rattle.match_puzzle.specs.Puzzle.{Task, mate_of}
use Rattle.match_board.specs.Borders.{BorderRule, free, one, each}
use Rattle.match_board.specs.Clues.{Clue}
use Rattle.match_puzzle.specs.Colours.{IsColourCount}
use Rattle.text_words.specs.Spelling.{colour_character, count_words, text_of}

abbrev pub is_colour : (colour other : ℕ) → Bool
is_colour colour other = other == colour

-- The rule asks for the colour.
abbrev pub is_rule : (colour : ℕ) → Option ℕ → Bool
is_rule colour None = false
is_rule colour (Some asked) = is_colour colour asked

-- on how many of a board's `outer` outer sides the border asks for the colour
abbrev pub border_count : BorderRule → (outer colour : ℕ) → ℕ
border_count free outer colour = 0
border_count (one asked) outer colour = if is_colour colour asked then outer else 0
border_count (each rules) outer colour = count_by (is_rule colour) rules

-- how many sides of tiles have the colour
abbrev pub tile_count : List (List ℕ) → (colour : ℕ) → ℕ
tile_count words colour = sum_by (count_by (is_colour colour)) words

-- the line of a colour
abbrev pub colour_line : Task → (outer colour : ℕ) → List ℕ
colour_line p outer colour =
    codes "colour " ++ colour_character colour ∷ codes ": "
    ++ decimal (border_count p.border outer colour) ++ codes " on the border, "
    ++ decimal (tile_count p.words colour) ++ codes " on tiles\n"

-- a name and a number
abbrev pub number_line : List ℕ → ℕ → List ℕ
number_line name number = text_of (count_words name number ∷ [])

-- whether tiles may be turned
abbrev pub turns_line : Bool → List ℕ
turns_line true = codes "tiles may be turned\n"
turns_line false = codes "tiles may not be turned\n"

-- words, and the sign of a colour
abbrev pub named : (words : List ℕ) → (colour : ℕ) → List ℕ
named words colour = words ++ colour_character colour ∷ []

-- the line of a colour that is its own mate
abbrev pub own_mate_line : (colour : ℕ) → List ℕ
own_mate_line colour = named (codes "colour ") colour ++ codes " is its own mate\n"

-- the line of two mates
abbrev pub pair_line : (colour mate : ℕ) → List ℕ
pair_line colour mate = named (codes "colours ") colour ++ named (codes " and ") mate ++ codes " are mates\n"

-- what is said of a colour's mate: of two mates at the lesser
abbrev pub mate_line : Task → (colour : ℕ) → List ℕ
mate_line p colour =
    if mate_of p colour == colour then own_mate_line colour
    else (if nat_lt colour (mate_of p colour) then pair_line colour (mate_of p colour) else [])

-- what is said of the mates of the first `colours` colours, where the puzzle has this list of mates
abbrev pub mates_text : Task → (mates : List ℕ) → (colours : ℕ) → List ℕ
mates_text p [] colours = codes "equal colours meet\n"
mates_text p (first ∷ rest) colours = flat_map (mate_line p) (range_with_len 0 colours)

-- how many clues there are, where there are some
abbrev pub clues_text : List Clue → List ℕ
clues_text [] = []
clues_text (first ∷ rest) = number_line (codes "clues") (length (first ∷ rest))

-- whether tiles may be turned, which sides may meet, and how many cells have clues
abbrev pub rules_text : Task → (colours : ℕ) → List ℕ
rules_text p colours = turns_line p.turns ++ mates_text p p.mating.mates colours ++ clues_text p.clues

-- how many cells, tiles and colours there are, a line for each colour, and the rules; the board has `outer` outer sides
abbrev pub facts_text : Task → (outer colours : ℕ) → List ℕ
facts_text p outer colours =
    number_line (codes "cells") (cell_count p.board) ++ number_line (codes "tiles") (length p.words)
    ++ number_line (codes "colours") colours
    ++ flat_map (colour_line p outer) (range_with_len 0 colours)
    ++ rules_text p colours

-- the text has the facts of the puzzle, with all its outer sides and all its colours
pub record IsFacts (p : Task) (text : List ℕ) : Type 0 where
  pub outer : List (ℕ × ℕ)
  pub border : IsBorderOrder p.board outer
  pub colours : ℕ
  pub counted : IsColourCount p colours
  pub written : text ≡ facts_text p (length outer) colours

-- The line `work N`. What it guesses is said nowhere here: it is no fact.
pub record IsWorkLine (line : List ℕ) : Type 0 where
  pub word : List ℕ
  pub written : line ≡ codes "work " ++ (word ++ 10 ∷ [])
