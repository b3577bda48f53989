-- The lines of a list's arrangements, written in parts.
use Rattle.std.specs.Prelude.{◌≡◌, ℕ, List, [], ◌∷◌, ◌++◌, MatchBool, map}
use Rattle.std.specs.List.{AllByRecursion, flat_map}
use Rattle.match_puzzle.specs.declared.placements.Placement.{Placement}
use Rattle.match_limits.specs.declared.ranges.TheConstants.{FIRST}
use Rattle.text_words.specs.Spelling.{end_lines, text_of}
use Rattle.match_text.specs.ListSpelling.{IsRowWithin, arrangement_words}
use Rattle.match_text.specs.declared.row_lines.RowLines.{RowLines}

-- The lines are those of the arrangements, and tell whether version 1 has the numbers for them.
pub record AreLinesOf (rows : List (List Placement)) (lines : RowLines) : Type 0 where
  pub text : lines.text.items ≡ text_of (map arrangement_words rows)
  pub first : MatchBool lines.is_first (AllByRecursion (IsRowWithin FIRST) rows)
      (AllByRecursion (IsRowWithin FIRST) rows → ⊥)

-- The parts are the lines of the arrangements, those of the first ones first.
abbrev pub AreParts : (rows : List (List Placement)) → List RowLines → Type 0
AreParts rows [] = rows ≡ []
AreParts rows (part ∷ parts) =
    (first : List (List Placement)) × (others : List (List Placement)) × (rows ≡ first ++ others)
    × AreLinesOf first part × AreParts others parts

-- what stands before the lines, the lines of all parts, and the last line
abbrev pub whole_text : (front : List ℕ) → List RowLines → List ℕ
whole_text front parts = (front ++ flat_map (λ part. part.text.items) parts) ++ text_of end_lines
