-- The text of a list of arrangements.
use Rattle.std.specs.Prelude.{ℕ, List, Result, Ok, Err, codes}
use Rattle.match_limits.specs.declared.TheConstants.{MOST_ARRANGEMENTS}
use Rattle.match_puzzle.specs.declared.placements.Placement.{Placement}
use Rattle.text_words.specs.declared.faults.TextFault.{TextFault}
use Rattle.match_text.specs.declared.lists.ListText as code
use Rattle.match_limits.specs.declared.ranges.Ranges.{Ranges}
use Rattle.match_limits.specs.Ranges.{ranges_of}
use Rattle.text_words.specs.Words.{placement_in}
use Rattle.text_words.specs.Place.{Read, ◌>>=◌, give, line_of, some_entries, opening, counted, closing, times, start}
use Rattle.text_words.specs.Place.{value_of}

-- what a text says: its version, and the arrangements that it lists
pub record ListSaid : Type 0 where
  pub version : ℕ
  pub rows : List (List Placement)

-- a placement for each cell
unfoldable pub arrangement_line : Ranges → Read (List Placement)
arrangement_line ranges = line_of (some_entries ranges.most_cells (placement_in ranges))

unfoldable pub list_text : Read ListSaid
list_text = do
  version ← opening (codes "list")
  count ← counted (codes "arrangements") 0 MOST_ARRANGEMENTS
  rows ← times count (arrangement_line (ranges_of version))
  _ ← closing
  give (record { version = version; rows = rows })

-- what a text says, or its first fault
unfoldable pub list_said : List ℕ → Result ListSaid TextFault
list_said text = value_of (list_text (start text))

-- the arrangements alone
abbrev pub rows_of : Result ListSaid TextFault → Result (List (List Placement)) TextFault
rows_of (Ok said) = Ok said.rows
rows_of (Err fault) = Err fault

-- the arrangements of a text, or its first fault
unfoldable pub list_of : List ℕ → Result (List (List Placement)) TextFault
list_of text = rows_of (list_said text)

-- what was read, without where it lies in memory
abbrev pub said_of : code.ListText → ListSaid
said_of t = record { version = t.version; rows = t.rows.items }
