-- Pieces of lines.
use Rattle.std.specs.Prelude.{ℕ, ◌-◌, List, [], ◌∷◌, ◌++◌, Option, Some, None, Bool, if◌then◌else◌, replicate, length, take, decimal}
use Rattle.std.specs.List.{flat_map, suffix_len}
use Rattle.std.specs.Char.{is_ascii_whitespace}

-- `count` spaces
abbrev pub spaces : ℕ → List ℕ
spaces count = replicate count 32

-- `width` columns with a number at their right end, or with nothing there
abbrev pub padded : ℕ → Option ℕ → List ℕ
padded width None = spaces width
padded width (Some number) = spaces (width - length (decimal number)) ++ decimal number

-- the star of a marked cell, or a space
abbrev pub star : Bool → ℕ
star marked = if marked then 42 else 32

-- a line without the spaces at its end, and LF
abbrev pub trimmed_line : List ℕ → List ℕ
trimmed_line line = take (length line - suffix_len is_ascii_whitespace line) line ++ 10 ∷ []

-- lines as a text, each without the spaces at its end
abbrev pub sheet_text : List (List ℕ) → List ℕ
sheet_text lines = flat_map trimmed_line lines
