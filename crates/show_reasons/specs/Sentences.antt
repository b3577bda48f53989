-- How reasons are told.
use Rattle.std.specs.Prelude.{◌≡◌, ◌==◌, ◌-◌, ◌++◌, ℕ, List, [], Bool, true, false, codes, decimal, filter}
use Rattle.std.specs.Prelude.{if◌then◌else◌, length, take}
use Rattle.std.specs.List.{flat_map}
use Rattle.match_puzzle.specs.Puzzle.{Task}
use Rattle.show_text.specs.Facts.{named}
use Rattle.show_reasons.specs.Reasons.{AreReasons}
use Rattle.show_reasons.specs.declared.reasons.Reason.{Reason}
use Rattle.show_reasons.specs.declared.reasons.Reason.TheVariants.{ColourShort, Odd, Unequal, DeadCell, DeadTile}
use Rattle.show_reasons.specs.declared.sentences.Kind.{Kind}
use Rattle.show_reasons.specs.declared.sentences.Kind.TheVariants.{Colours, Cells, Tiles}
use Rattle.show_reasons.specs.declared.sentences.TheConstants.{MOST_NAMED}

-- words, and a number
abbrev pub counted : (words : List ℕ) → (number : ℕ) → List ℕ
counted words number = words ++ decimal number

-- words, and a number of sides
abbrev pub sides_counted : (words : List ℕ) → (number : ℕ) → List ℕ
sides_counted words number = counted words number ++ (if number == 1 then codes " side" else codes " sides")

-- the sentence of a reason
abbrev pub sentence : Reason → List ℕ
sentence (ColourShort colour asked shown) =
    named (codes "no arrangement: the border asks for colour ") colour ++ sides_counted (codes " on ") asked
    ++ counted (codes ", and tiles show it on ") shown ++ codes "\n"
sentence (Odd colour left) =
    named (codes "no arrangement: off the border tiles show colour ") colour ++ sides_counted (codes " on ") left
    ++ codes ", an odd number\n"
sentence (Unequal colour left mate mate_left) =
    named (codes "no arrangement: off the border tiles show colour ") colour ++ sides_counted (codes " on ") left
    ++ named (codes ", and its mate ") mate ++ counted (codes " on ") mate_left ++ codes "\n"
sentence (DeadCell cell) = counted (codes "no arrangement: nothing fits at cell ") cell ++ codes "\n"
sentence (DeadTile tile) = counted (codes "no arrangement: tile ") tile ++ codes " fits nowhere\n"

-- The reason is of this kind.
abbrev pub is_of : Kind → Reason → Bool
is_of Colours (ColourShort colour asked shown) = true
is_of Colours (Odd colour left) = true
is_of Colours (Unequal colour left mate mate_left) = true
is_of Colours (DeadCell cell) = false
is_of Colours (DeadTile tile) = false
is_of Cells (ColourShort colour asked shown) = false
is_of Cells (Odd colour left) = false
is_of Cells (Unequal colour left mate mate_left) = false
is_of Cells (DeadCell cell) = true
is_of Cells (DeadTile tile) = false
is_of Tiles (ColourShort colour asked shown) = false
is_of Tiles (Odd colour left) = false
is_of Tiles (Unequal colour left mate mate_left) = false
is_of Tiles (DeadCell cell) = false
is_of Tiles (DeadTile tile) = true

-- how the sentence begins and ends that says how many more reasons of a kind there are
abbrev pub more_begin : Kind → List ℕ
more_begin Colours = codes "no arrangement: so with "
more_begin Cells = codes "no arrangement: nothing fits at "
more_begin Tiles = codes "no arrangement: "

abbrev pub more_end : Kind → (more : ℕ) → List ℕ
more_end Colours more = if more == 1 then codes " more colour\n" else codes " more colours\n"
more_end Cells more = if more == 1 then codes " more cell\n" else codes " more cells\n"
more_end Tiles more = if more == 1 then codes " more tile fits nowhere\n" else codes " more tiles fit nowhere\n"

-- what is said of `more` further reasons of a kind
abbrev pub more_sentence : Kind → (more : ℕ) → List ℕ
more_sentence kind more = if more == 0 then [] else counted (more_begin kind) more ++ more_end kind more

-- the sentences of the first reasons of a kind, at most `MOST_NAMED`, and then how many more there are
abbrev pub kind_text : List Reason → Kind → List ℕ
kind_text reasons kind =
    flat_map sentence (take MOST_NAMED (filter (is_of kind) reasons))
    ++ more_sentence kind (length (filter (is_of kind) reasons) - MOST_NAMED)

-- the sentences of reasons
abbrev pub reasons_text : List Reason → List ℕ
reasons_text reasons = kind_text reasons Colours ++ kind_text reasons Cells ++ kind_text reasons Tiles

-- the text tells all reasons of the puzzle, of each kind the first few
pub record TellsReasons (p : Task) (text : List ℕ) : Type 0 where
  pub reasons : List Reason
  pub all : AreReasons p reasons
  pub told : text ≡ reasons_text reasons
