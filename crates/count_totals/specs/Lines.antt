-- The lines that a count of a part prints.
use Rattle.std.specs.Prelude.{◌≡◌, ◌≢◌, ◌≤◌, ◌<◌, ◌^◌, ◌++◌, ◌∷◌, [], ℕ, List, Contains, codes, decimal, length}
use Rattle.count_totals.specs.declared.TheConstants.{MOST_PARTS}
use Rattle.hex.specs.Hex.{IsBytes, encode_lower}
use Rattle.count_totals.specs.declared.lines.CountedPart.{CountedPart}
use Rattle.count_totals.specs.declared.lines.Line.{Line}
use Rattle.count_totals.specs.declared.lines.Line.TheVariants.{Puzzle, Split, Part}

-- what stands in a line of a part behind its first word
abbrev pub part_words : CountedPart → List ℕ
part_words part =
    decimal part.number ++ codes "/" ++ decimal part.parts ++ codes " arrangements " ++ decimal part.count

-- a line, without its end
abbrev pub line_text : Line → List ℕ
line_text (Puzzle digest) = codes "puzzle " ++ encode_lower digest
line_text (Split split) = codes "split " ++ decimal split.branches ++ codes " " ++ decimal split.hash
line_text (Part part) = codes "part " ++ part_words part

-- The numbers of a line are in their ranges: a digest has 32 bytes, and a part is one of 1,000,000 at most.
abbrev pub IsInRange : Line → Type 0
IsInRange (Puzzle digest) = (length digest ≡ 32) × IsBytes digest
IsInRange (Split split) = (split.branches < 2 ^ 64) × (split.hash < 2 ^ 64)
IsInRange (Part part) = (1 ≤ part.number) × (part.number ≤ part.parts) × (part.parts ≤ MOST_PARTS) × (part.count < 2 ^ 64)

-- The bytes are the line.
pub record IsLine (text : List ℕ) (line : Line) : Type 0 where
  pub is : text ≡ line_text line
  pub in_range : IsInRange line

-- The numbers of each line are in their ranges.
abbrev pub AreInRange : List Line → Type 0
AreInRange lines = (line : Line) → Contains lines line → IsInRange line

-- lines, each with its end
abbrev pub text_of : List Line → List ℕ
text_of [] = []
text_of (line ∷ lines) = line_text line ++ 10 ∷ text_of lines

-- The text has these lines, and nothing behind them.
pub record AreLinesOf (text : List ℕ) (lines : List Line) : Type 0 where
  pub is : text ≡ text_of lines
  pub in_range : AreInRange lines

-- Behind these lines of the text something stands that has no line end.
pub record EndsEarly (text : List ℕ) (before : List Line) : Type 0 where
  pub rest : List ℕ
  pub is : text ≡ text_of before ++ rest
  pub in_range : AreInRange before
  pub some : rest ≢ []
  pub endless : (line more : List ℕ) → rest ≢ line ++ 10 ∷ more

-- Behind these lines of the text another stands, which is none that a count prints.
pub record HasUnknownLine (text : List ℕ) (before : List Line) : Type 0 where
  pub here : List ℕ
  pub rest : List ℕ
  pub is : text ≡ text_of before ++ (here ++ 10 ∷ rest)
  pub in_range : AreInRange before
  pub whole : (line more : List ℕ) → here ≢ line ++ 10 ∷ more
  pub unknown : (line : Line) → IsLine here line → ⊥
