-- Why a puzzle has no arrangement.
use Rattle.std.specs.Prelude.{◌≡◌, ◌≢◌, ◌<◌, ◌+◌, ◌%◌, ℕ, List, length}
use Rattle.match_limits.specs.Listing.{IsListing, ByKey, HoldsBefore}
use Rattle.match_limits.specs.declared.TheConstants.{MOST_COLOURS}
use Rattle.match_board.specs.Board.{cell_count, IsBorderPair, IsBorderOrder}
use Rattle.match_board.specs.Borders.{Asks}
use Rattle.match_puzzle.specs.Fitting.{Fits}
use Rattle.match_puzzle.specs.Prefix.{empty_prefix}
use Rattle.match_puzzle.specs.Puzzle.{Task, AllHaveToStand, mate_of}
use Rattle.match_puzzle.specs.declared.placements.Placement.{Placement}
use Rattle.show_text.specs.Facts.{border_count, tile_count}
use Rattle.show_reasons.specs.declared.reasons.Reason.{Reason}
use Rattle.show_reasons.specs.declared.reasons.Reason.TheVariants.{ColourShort, Odd, Unequal, DeadCell, DeadTile}

-- the border asks for the colour on `asked` outer sides
pub record IsAskedCount (p : Task) (colour asked : ℕ) : Type 0 where
  pub outer : List (ℕ × ℕ)
  pub border : IsBorderOrder p.board outer
  pub counted : asked ≡ border_count p.border (length outer) colour

-- The border asks each outer side for a colour; clues don't count.
abbrev pub AsksEverywhere : Task → Type 0
AsksEverywhere p =
    (cell side : ℕ) → IsBorderPair p.board cell side → (colour : ℕ) × Asks p.board p.border cell side colour

-- What the border leaves of a colour just fills inner sides: each tile has to stand, and the border asks each outer
-- side for a colour.
abbrev pub FillsInside : Task → Type 0
FillsInside p = AllHaveToStand p × AsksEverywhere p

-- When the border has the sides of the colour that it asks for, `left` sides of tiles with it are left for inner sides.
abbrev pub IsLeft : Task → (colour left : ℕ) → Type 0
IsLeft p colour left = (asked : ℕ) × IsAskedCount p colour asked × (tile_count p.words colour ≡ asked + left)

-- The border asks for the colour on `asked` sides, and tiles show it on `shown` sides, which are fewer.
pub record IsShort (p : Task) (colour asked shown : ℕ) : Type 0 where
  pub few : colour < MOST_COLOURS
  pub counted : IsAskedCount p colour asked
  pub on_tiles : shown ≡ tile_count p.words colour
  pub short : shown < asked

-- What is left fills inner sides, and an odd number of sides is left of a colour that meets itself.
pub record IsOdd (p : Task) (colour left : ℕ) : Type 0 where
  pub few : colour < MOST_COLOURS
  pub inside : FillsInside p
  pub own : mate_of p colour ≡ colour
  pub counted : IsLeft p colour left
  pub odd : left % 2 ≡ 1

-- What is left fills inner sides, and of two mates different numbers of sides are left.
pub record AreUnequal (p : Task) (colour left mate mate_left : ℕ) : Type 0 where
  pub few : colour < MOST_COLOURS
  pub inside : FillsInside p
  pub mates : mate ≡ mate_of p colour
  pub lesser : colour < mate
  pub counted : IsLeft p colour left
  pub mate_counted : IsLeft p mate mate_left
  pub unequal : left ≢ mate_left

-- Nothing fits at the cell of the empty board.
abbrev pub IsDeadCell : Task → (cell : ℕ) → Type 0
IsDeadCell p cell = (cell < cell_count p.board) × ((x : Placement) → Fits p (empty_prefix p) cell x → ⊥)

-- Each tile has to stand, and this one fits nowhere on the empty board.
abbrev pub IsDeadTile : Task → (tile : ℕ) → Type 0
IsDeadTile p tile =
    AllHaveToStand p × (tile < length p.words)
    × ((cell : ℕ) (x : Placement) → x.tile ≡ tile → Fits p (empty_prefix p) cell x → ⊥)

-- The reason holds of the puzzle.
abbrev pub HoldsOf : Task → Reason → Type 0
HoldsOf p (ColourShort colour asked shown) = IsShort p colour asked shown
HoldsOf p (Odd colour left) = IsOdd p colour left
HoldsOf p (Unequal colour left mate mate_left) = AreUnequal p colour left mate mate_left
HoldsOf p (DeadCell cell) = IsDeadCell p cell
HoldsOf p (DeadTile tile) = IsDeadTile p tile

-- The colours that the reason names are colours.
abbrev pub NamesColours : Reason → Type 0
NamesColours (ColourShort colour asked shown) = colour < MOST_COLOURS
NamesColours (Odd colour left) = colour < MOST_COLOURS
NamesColours (Unequal colour left mate mate_left) = (colour < MOST_COLOURS) × (mate < MOST_COLOURS)
NamesColours (DeadCell cell) = Unit {0}
NamesColours (DeadTile tile) = Unit {0}

-- reasons of colours come first, then those of cells, then those of tiles
abbrev pub reason_key : Reason → ℕ × ℕ
reason_key (ColourShort colour asked shown) = (0, colour)
reason_key (Odd colour left) = (0, colour)
reason_key (Unequal colour left mate mate_left) = (0, colour)
reason_key (DeadCell cell) = (1, cell)
reason_key (DeadTile tile) = (2, tile)

-- all reasons that hold of the puzzle, in order
abbrev pub AreReasons : Task → List Reason → Type 0
AreReasons p reasons = IsListing (ByKey reason_key) (HoldsOf p) reasons

-- The reason holds of the puzzle, and has this key.
abbrev pub IsReasonAt : Task → (key : ℕ × ℕ) → Reason → Type 0
IsReasonAt p key reason = HoldsOf p reason × (reason_key reason ≡ key)

-- No reason with this key holds.
abbrev pub HasNoReasonAt : Task → (key : ℕ × ℕ) → Type 0
HasNoReasonAt p key = (reason : Reason) → HoldsOf p reason → reason_key reason ≡ key → ⊥

-- the reasons that hold and whose keys come before this one
abbrev pub AreReasonsBefore : Task → (key : ℕ × ℕ) → List Reason → Type 0
AreReasonsBefore p key reasons = IsListing (ByKey reason_key) (HoldsBefore reason_key (HoldsOf p) key) reasons
