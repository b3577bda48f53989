-- What a word of a puzzle has to be, and what is wrong with one that isn't.
use Rattle.std.specs.Prelude.{ℕ, zero, suc, codes, ◌-◌, List, [], ◌∷◌, length, Option, Some, None, Result, Ok, Err}
use Rattle.std.specs.Prelude.{map, Bool, ◌&&◌, ◌||◌, nat_le, ◌==◌, if◌then◌else◌}
use Rattle.match_limits.specs.declared.TheConstants.{LAST_TURN}
use Rattle.std.specs.List.{list_all}
use Rattle.std.specs.Str.{bytes_eq}
use Rattle.match_board.specs.Clues.{Clue}
use Rattle.match_puzzle.specs.declared.placements.Pair.{Pair}
use Rattle.match_puzzle.specs.declared.placements.Placement.{Placement}
use Rattle.match_limits.specs.declared.ranges.Ranges.{Ranges}
use Rattle.text_words.specs.declared.faults.TextKind.{TextKind}
use Rattle.text_words.specs.declared.faults.TextKind.TheVariants.{Word, Limit}
use Rattle.text_words.specs.Bytes.{cut_at}
use Rattle.text_words.specs.PlainWords.{◌>>=◌, number_in, or_word}

-- the colour that a digit or a small letter stands for
abbrev pub colour_of : ℕ → Option ℕ
colour_of c =
    if nat_le 48 c && nat_le c 57 then Some (c - 48) else (if nat_le 97 c && nat_le c 122 then Some (c - 87) else None)

-- a colour's character, and nothing more
unfoldable pub colour_in : List ℕ → Result ℕ TextKind
colour_in [] = Err Word
colour_in (c ∷ []) = or_word (colour_of c)
colour_in (c ∷ d ∷ word) = Err Word

-- a colour for each character
abbrev pub colours_in : List ℕ → Result (List ℕ) TextKind
colours_in [] = Ok []
colours_in (c ∷ word) = do
  colour ← or_word (colour_of c)
  colours ← colours_in word
  Ok (colour ∷ colours)

-- a tile's three or four sides in order, a colour for each
unfoldable pub tile_in : List ℕ → Result (List ℕ) TextKind
tile_in word = if length word == 3 || length word == 4 then colours_in word else Err Word

-- a character of a row: `#` for a cell, or `.` for a place without one
abbrev pub is_cell : ℕ → Bool
is_cell c = c == 35

abbrev pub is_mark : ℕ → Bool
is_mark c = is_cell c || c == 46

-- a row of `width` places: which of them have a cell
unfoldable pub marks_in : ℕ → List ℕ → Result (List Bool) TextKind
marks_in width word = if length word == width && list_all is_mark word then Ok (map is_cell word) else Err Word

-- what is asked of a border pair: a colour, or nothing, which is a dash
unfoldable pub rule_in : List ℕ → Result (Option ℕ) TextKind
rule_in word = if bytes_eq word (codes "-") then Ok None else (do
  colour ← colour_in word
  Ok (Some colour))

-- what each character asks of a side
abbrev pub asks_in : List ℕ → Result (List (Option ℕ)) TextKind
asks_in [] = Ok []
asks_in (c ∷ word) = do
  ask ← rule_in (c ∷ [])
  asks ← asks_in word
  Ok (ask ∷ asks)

-- the clue of a cell that asks this of its sides
unfoldable pub clue_with : ℕ → List ℕ → Result Clue TextKind
clue_with cell word = do
  asks ← asks_in word
  Ok (record { cell = cell; asks = asks })

-- a clue of a cell: what is asked of its three or four sides in order, a colour or a dash for each
unfoldable pub clue_in : ℕ → List ℕ → Result Clue TextKind
clue_in cell word = if length word == 3 || length word == 4 then clue_with cell word else Err Word

-- a tile and how often it is turned, with a dot between
unfoldable pub placement_in : Ranges → List ℕ → Result Placement TextKind
placement_in ranges word = do
  parts ← or_word (cut_at 46 word)
  tile ← number_in 0 ranges.last_cell parts.0
  turn ← number_in 0 LAST_TURN parts.1
  Ok (record { tile = tile; turn = turn })

-- a cell, with a colon before the tile and its turn
unfoldable pub pair_in : Ranges → List ℕ → Result Pair TextKind
pair_in ranges word = do
  parts ← or_word (cut_at 58 word)
  placed ← or_word (cut_at 46 parts.1)
  cell ← number_in 0 ranges.last_cell parts.0
  tile ← number_in 0 ranges.last_cell placed.0
  turn ← number_in 0 LAST_TURN placed.1
  Ok (record { cell = cell; placement = record { tile = tile; turn = turn } })

-- each of these words is an entry, and there are at most `room` words
unfoldable pub entries_in : {X : Type 0} → ℕ → (List ℕ → Result X TextKind) → List (List ℕ) → Result (List X) TextKind
entries_in room test [] = Ok []
entries_in zero test (word ∷ others) = Err Limit
entries_in (suc room) test (word ∷ others) = do
  x ← test word
  xs ← entries_in room test others
  Ok (x ∷ xs)
