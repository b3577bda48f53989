-- Bytes cut at bytes of a kind.
use Rattle.std.specs.Prelude.{ℕ, ◌+◌, List, [], ◌∷◌, Option, Some, None, ◌==◌, if◌then◌else◌}
use Rattle.std.specs.List.{slice_split}

abbrev pub onto : ℕ → Option (List ℕ × List ℕ) → Option (List ℕ × List ℕ)
onto b None = None
onto b (Some parts) = Some (b ∷ parts.0, parts.1)

-- what stands before the first c, and what stands after it
abbrev pub cut_at : ℕ → List ℕ → Option (List ℕ × List ℕ)
cut_at c [] = None
cut_at c (b ∷ bytes) = if b == c then Some ([], bytes) else onto b (cut_at c bytes)

-- a line's words: the parts between its spaces
unfoldable pub words_of : List ℕ → List (List ℕ)
words_of line = slice_split (λ b. b == 32) line

-- the words of a line, or none
abbrev pub words_left : Option (List ℕ) → List (List ℕ)
words_left None = []
words_left (Some bytes) = words_of bytes

-- how many lines end in the bytes
abbrev pub line_ends : List ℕ → ℕ
line_ends [] = 0
line_ends (b ∷ bytes) = (if b == 10 then 1 else 0) + line_ends bytes
