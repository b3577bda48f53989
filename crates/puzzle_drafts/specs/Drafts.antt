-- What is asked of a puzzle that is to be made, and when that can't be had.
use Rattle.std.specs.Prelude.{◌≡◌, ◌<◌, ◌≤◌, ◌+◌, ◌-◌, ◌*◌, ◌%◌, ◌==◌, if◌then◌else◌, ℕ, true, false, List, [], Some}
use Rattle.std.specs.Prelude.{MatchBool, length, slice_get}
use Rattle.match_limits.specs.declared.TheConstants.{MOST_COLOURS, MOST_PLAIN_CELLS, MOST_TILES}
use Rattle.match_limits.specs.First.{IsFirst, Rank, rank_by}
use Rattle.match_board.specs.Board.{cell_count, side_count}
use Rattle.match_board.specs.declared.figures.Figure.{Figure}
use Rattle.match_board.specs.declared.figures.Figure.TheVariants as figures
use Rattle.puzzle_drafts.specs.declared.drafts.BorderKind.{BorderKind}
use Rattle.puzzle_drafts.specs.declared.drafts.BorderKind.TheVariants.{Frame, One, Free, Each}
use Rattle.puzzle_drafts.specs.declared.drafts.Draft.{Draft}
use Rattle.puzzle_drafts.specs.declared.misfits.Misfit.{Misfit}
use Rattle.puzzle_drafts.specs.declared.misfits.Misfit.TheVariants.{EmptyBoard, LargeBoard, FixedTriangles, FewColours}
use Rattle.puzzle_drafts.specs.declared.misfits.Misfit.TheVariants.{ManyColours, OddMates, LoneMate, ManyTiles, ManyClues}
use Rattle.puzzle_drafts.specs.declared.drafts.PlainBoard.{PlainBoard}
use Rattle.puzzle_drafts.specs.declared.drafts.PlainBoard.TheVariants.{Rectangle, Triangle, Hexagon}
use Rattle.puzzle_drafts.specs.declared.drafts.PlainRules.{PlainRules}

-- the figure that a board covers
abbrev pub figure_of : PlainBoard → Figure
figure_of (Rectangle width height) = figures.Rectangle width height
figure_of (Triangle size) = figures.Triangle size
figure_of (Hexagon size) = figures.Hexagon size

-- how many turns take a whole board to itself, with the one that leaves it as it is
abbrev pub board_turns : PlainBoard → ℕ
board_turns (Rectangle width height) = if width == height then 4 else 2
board_turns (Triangle size) = 3
board_turns (Hexagon size) = 6

-- how many of them ask the border for what it was asked for before
abbrev pub border_turns : BorderKind → PlainBoard → ℕ
border_turns Frame board = board_turns board
border_turns One board = board_turns board
border_turns Free board = board_turns board
border_turns Each board = 1

-- how many arrangements the turns of the whole board make of one, where tiles may be turned
abbrev pub turns_of : PlainRules → ℕ
turns_of r = if r.turns then border_turns r.border r.board else 1

-- how many arrangements a puzzle may have where they are to be few: with a clue just one
abbrev pub most_arrangements : PlainRules → Draft → ℕ
most_arrangements r d = if d.clues == 0 then turns_of r else 1

-- how many colours are in no pair of mates: colour 0, where the border asks for it on each outer side
abbrev pub unpaired_colours : BorderKind → ℕ
unpaired_colours Frame = 1
unpaired_colours One = 1
unpaired_colours Free = 0
unpaired_colours Each = 0

-- the least colour inside
abbrev pub least_inside : BorderKind → ℕ
least_inside Frame = 1
least_inside One = 0
least_inside Free = 0
least_inside Each = 0

-- Colours from `alone` on are mates, each of the one beside it; those before are their own mates.
pub record ArePairs (alone colours : ℕ) (mates : List ℕ) : Type 0 where
  pub all : length mates ≡ colours
  pub own : (colour : ℕ) → colour < alone → colour < colours → slice_get mates colour ≡ Some colour
  pub first : (pair : ℕ) → alone + 2 * pair < colours → slice_get mates (alone + 2 * pair) ≡ Some (alone + 2 * pair + 1)
  pub second : (pair : ℕ) → alone + 2 * pair + 1 < colours
      → slice_get mates (alone + 2 * pair + 1) ≡ Some (alone + 2 * pair)

-- the mates that are asked for, or none
abbrev pub AreMatesAsked : PlainRules → Draft → (mates : List ℕ) → Type 0
AreMatesAsked r d mates = MatchBool r.mates (ArePairs (unpaired_colours r.border) d.colours mates) (mates ≡ [])

-- the version of the puzzle: 3 where it has clues or more tiles than cells, else 2 where it has mates
abbrev pub version_of : PlainRules → Draft → ℕ
version_of r d = if d.spare + d.clues == 0 then (if r.mates then 2 else 1) else 3

-- how many tiles there are
abbrev pub tiles_of : PlainRules → Draft → ℕ
tiles_of r d = cell_count (figure_of r.board) + d.spare

-- What is asked can't be had, for this reason.
abbrev pub Misfits : PlainRules → Draft → Misfit → Type 0
Misfits r d EmptyBoard = cell_count (figure_of r.board) ≡ 0
Misfits r d LargeBoard = MOST_PLAIN_CELLS < cell_count (figure_of r.board)
Misfits r d FixedTriangles = (side_count (figure_of r.board) ≡ 3) × (r.turns ≡ false)
Misfits r d FewColours = d.colours ≤ least_inside r.border
Misfits r d ManyColours = MOST_COLOURS < d.colours
Misfits r d OddMates = (r.mates ≡ true) × ((d.colours - unpaired_colours r.border) % 2 ≡ 1)
Misfits r d LoneMate = ⊥
Misfits r d ManyTiles = MOST_TILES < tiles_of r d
Misfits r d ManyClues = cell_count (figure_of r.board) < d.clues

-- the order of the reasons
abbrev pub misfit_rank : Misfit → Rank
misfit_rank EmptyBoard = rank_by 1
misfit_rank LargeBoard = rank_by 2
misfit_rank FixedTriangles = rank_by 3
misfit_rank FewColours = rank_by 4
misfit_rank ManyColours = rank_by 5
misfit_rank OddMates = rank_by 6
misfit_rank LoneMate = rank_by 7
misfit_rank ManyTiles = rank_by 8
misfit_rank ManyClues = rank_by 9

-- the first reason why what is asked can't be had
abbrev pub IsFirstMisfit : PlainRules → Draft → Misfit → Type 0
IsFirstMisfit r d misfit = IsFirst misfit_rank (Misfits r d) misfit
