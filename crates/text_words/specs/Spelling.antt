-- How values are spelled: a text by its lines, and a line by its words.
use Rattle.std.specs.Prelude.{ℕ, zero, suc, ◌+◌, List, [], ◌∷◌, ◌++◌, Option, Some, None, map, codes, decimal, nat_lt}
use Rattle.std.specs.Prelude.{if◌then◌else◌}
use Rattle.std.specs.List.{flat_map, join_with_byte}
use Rattle.match_puzzle.specs.declared.placements.Placement.{Placement}

-- a line's words with a space between each two, and LF
unfoldable pub line_text : List (List ℕ) → List ℕ
line_text words = join_with_byte 32 words ++ 10 ∷ []

-- words with a space before each
unfoldable pub spaced : List (List ℕ) → List ℕ
spaced words = flat_map (λ word. 32 ∷ word) words

-- a text by its lines' words
unfoldable pub text_of : List (List (List ℕ)) → List ℕ
text_of lines = flat_map line_text lines

-- the space before a word, by how many stand before it
abbrev pub space_before : ℕ → List ℕ
space_before zero = []
space_before (suc n) = 32 ∷ []

-- ---- words

-- a colour below 36, as a digit or a small letter
abbrev pub colour_character : ℕ → ℕ
colour_character colour = if nat_lt colour 10 then colour + 48 else colour + 87

abbrev pub colour_word : ℕ → List ℕ
colour_word colour = colour_character colour ∷ []

-- a dash, where nothing is asked
abbrev pub rule_word : Option ℕ → List ℕ
rule_word None = codes "-"
rule_word (Some colour) = colour_word colour

-- a character for each side
abbrev pub tile_word : List ℕ → List ℕ
tile_word colours = map colour_character colours

-- a colour's character, or a dash
abbrev pub ask_character : Option ℕ → ℕ
ask_character None = 45
ask_character (Some colour) = colour_character colour

-- what is asked of each side
abbrev pub asks_word : List (Option ℕ) → List ℕ
asks_word asks = map ask_character asks

-- a tile and its turn
abbrev pub placement_word : Placement → List ℕ
placement_word p = decimal p.tile ++ 46 ∷ decimal p.turn

-- ---- lines that texts have in common

-- the first line, a name and the version
abbrev pub first_words : List ℕ → ℕ → List (List ℕ)
first_words name version = name ∷ decimal version ∷ []

-- how many there are
abbrev pub count_words : List ℕ → ℕ → List (List ℕ)
count_words name count = name ∷ decimal count ∷ []

-- the last line
abbrev pub end_lines : List (List (List ℕ))
end_lines = (codes "end" ∷ []) ∷ []
