-- How an arrangement is printed.
use Rattle.std.specs.Prelude.{ℕ, List, [], ◌∷◌, map, decimal}
use Rattle.std.specs.List.{enumerate_from, range_with_len}
use Rattle.match_board.specs.Board.{side_count}
use Rattle.match_puzzle.specs.Puzzle.{Task, colour_of}
use Rattle.match_puzzle.specs.declared.placements.Placement.{Placement}
use Rattle.text_words.specs.Spelling.{text_of, placement_word, tile_word}

-- the colours that a placed tile shows, by side
abbrev pub colours_shown : Task → Placement → List ℕ
colours_shown p x = map (colour_of p x) (range_with_len 0 (side_count p.board))

-- the words of a cell with its number: the tile there and its turn, and the colours that it shows
abbrev pub cell_words : Task → ℕ × Placement → List (List ℕ)
cell_words p cell = decimal cell.0 ∷ placement_word cell.1 ∷ tile_word (colours_shown p cell.1) ∷ []

-- a line for each cell, in order
unfoldable pub board_text : Task → List Placement → List ℕ
board_text p a = text_of (map (cell_words p) (enumerate_from 0 a))
