-- The spelling of a list of arrangements in each version.
use Rattle.std.specs.Prelude.{◌≡◌, ℕ, ◌<◌, ◌≤◌, List, [], ◌∷◌, ◌++◌, length, map, codes}
use Rattle.match_limits.specs.declared.TheConstants.{MOST_ARRANGEMENTS}
use Rattle.std.specs.List.{AllByRecursion}
use Rattle.match_puzzle.specs.declared.placements.Placement.{Placement}
use Rattle.match_limits.specs.declared.ranges.Ranges.{Ranges}
use Rattle.match_limits.specs.declared.ranges.TheConstants.{FIRST}
use Rattle.match_limits.specs.Ranges.{IsVersion, ranges_of}
use Rattle.match_text.specs.Lists.{ListSaid}
use Rattle.text_words.specs.Spelling.{text_of, placement_word, first_words, count_words, end_lines}
use Rattle.text_words.specs.Within.{IsPlacementWithin}

abbrev pub arrangement_words : List Placement → List (List ℕ)
arrangement_words row = map placement_word row

abbrev pub list_head : (version count : ℕ) → List (List (List ℕ))
list_head version count = first_words (codes "list") version ∷ count_words (codes "arrangements") count ∷ []

abbrev pub list_lines : ℕ → List (List Placement) → List (List (List ℕ))
list_lines version rows = list_head version (length rows) ++ (map arrangement_words rows ++ end_lines)

unfoldable pub list_spelling : ℕ → List (List Placement) → List ℕ
list_spelling version rows = text_of (list_lines version rows)

-- the one text that says so
abbrev pub said_spelling : ListSaid → List ℕ
said_spelling said = list_spelling said.version said.rows

-- ---- what has a spelling

-- at least one placement
abbrev pub IsRowWithin : Ranges → List Placement → Type 0
IsRowWithin ranges row =
    (0 < length row) × (length row ≤ ranges.most_cells) × AllByRecursion (IsPlacementWithin ranges) row

-- The list is within the limits of a text with these ranges.
abbrev pub IsListWithin : Ranges → List (List Placement) → Type 0
IsListWithin ranges rows = (length rows ≤ MOST_ARRANGEMENTS) × AllByRecursion (IsRowWithin ranges) rows

-- The list has a spelling in this version.
abbrev pub IsSpelledIn : ℕ → List (List Placement) → Type 0
IsSpelledIn version rows = IsVersion version × IsListWithin (ranges_of version) rows

-- There is a text that says so.
abbrev pub IsSaidWithin : ListSaid → Type 0
IsSaidWithin said = IsSpelledIn said.version said.rows

-- The text is the list's: of version 1 where that has the numbers for it, else of version 2.
pub record IsListText (listed : List (List Placement)) (text : List ℕ) : Type 0 where
  pub first : IsListWithin FIRST listed → text ≡ list_spelling 1 listed
  pub second : (IsListWithin FIRST listed → ⊥) → text ≡ list_spelling 2 listed
