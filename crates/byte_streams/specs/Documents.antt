-- The texts of three documents, and one input cut into them.
use Rattle.std.specs.Prelude.{ℕ, ◌+◌, ◌<◌, ◌^◌, List, [], ◌∷◌, ◌++◌, codes, length, ◌==◌, if◌then◌else◌}
use Rattle.std.specs.Str.{bytes_eq}
use Rattle.std.specs.List.{slice_split, join_with_byte}

-- the lines, and what stands after the last LF
abbrev pub pieces_of : List ℕ → List (List ℕ)
pieces_of text = slice_split (λ b. b == 10) text

abbrev pub behind : List ℕ → List ℕ × List (List ℕ) → List ℕ × List (List ℕ)
behind front cut = (front ++ cut.0, cut.1)

-- a document is everything up to the first line that is exactly `end`, or all there is; and the pieces after it
abbrev pub cut_pieces : List (List ℕ) → List ℕ × List (List ℕ)
cut_pieces [] = ([], [] ∷ [])
cut_pieces (tail ∷ []) = (tail, [] ∷ [])
cut_pieces (line ∷ piece ∷ pieces) =
    if bytes_eq line (codes "end") then (line ++ 10 ∷ [], piece ∷ pieces)
    else behind (line ++ 10 ∷ []) (cut_pieces (piece ∷ pieces))

abbrev pub joined : List ℕ × List (List ℕ) → List ℕ × List ℕ
joined cut = (cut.0, join_with_byte 10 cut.1)

-- a document, and the bytes after it
unfoldable pub cut_document : List ℕ → List ℕ × List ℕ
cut_document text = joined (cut_pieces (pieces_of text))

abbrev pub first_of : List ℕ → List ℕ
first_of input = (cut_document input).0

abbrev pub second_of : List ℕ → List ℕ
second_of input = (cut_document (cut_document input).1).0

abbrev pub third_of : List ℕ → List ℕ
third_of input = (cut_document (cut_document input).1).1

-- the texts of the three documents
pub record Texts : Type 0 where
  pub puzzle : List ℕ
  pub list : List ℕ
  pub certificate : List ℕ

abbrev pub three : (puzzle list certificate : List ℕ) → Texts
three puzzle list certificate = record { puzzle = puzzle; list = list; certificate = certificate }

-- the three texts in one input
abbrev pub texts_in : List ℕ → Texts
texts_in input = three (first_of input) (second_of input) (third_of input)

-- The texts are shorter together than a number of 32 bits says.
abbrev pub AreShort : Texts → Type 0
AreShort texts = length texts.puzzle + length texts.list + length texts.certificate + 1 < 2 ^ 32
