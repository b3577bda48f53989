-- What is asked of a puzzle that is made like another one, and when that can't be had.
use Rattle.std.specs.Prelude.{◌≡◌, ◌≢◌, ◌⊎◌, ◌<◌, ◌≤◌, ◌+◌, ◌==◌, if◌then◌else◌, ℕ, true, List, Option}
use Rattle.std.specs.Prelude.{Some, length, count_by, sum_by}
use Rattle.match_limits.specs.declared.TheConstants.{MOST_COLOURS, MOST_TILES}
use Rattle.match_limits.specs.First.{IsFirst}
use Rattle.match_board.specs.Board.{cell_count, IsBorderOrder}
use Rattle.match_board.specs.Borders.{BorderRule, StandsInRule, one}
use Rattle.match_board.specs.Mates.{mate_in}
use Rattle.match_board.specs.declared.figures.Figure.{Figure}
use Rattle.match_board.specs.declared.figures.Figure.TheVariants.{Rectangle, Triangle, Hexagon, Shape}
use Rattle.match_puzzle.specs.Puzzle.{Task, mate_of}
use Rattle.match_puzzle.specs.declared.placements.Placement.{Placement}
use Rattle.puzzle_drafts.specs.Drafts.{misfit_rank}
use Rattle.puzzle_drafts.specs.declared.drafts.Draft.{Draft}
use Rattle.puzzle_drafts.specs.declared.misfits.Misfit.{Misfit}
use Rattle.puzzle_drafts.specs.declared.misfits.Misfit.TheVariants.{EmptyBoard, LargeBoard, FixedTriangles, FewColours}
use Rattle.puzzle_drafts.specs.declared.misfits.Misfit.TheVariants.{ManyColours, OddMates, LoneMate, ManyTiles, ManyClues}
use Rattle.puzzle_maker.specs.BoardTurns.{HasTurns}
use Rattle.puzzle_maker.specs.Made.{AreAllDifferent, HasAtMost, IsNoneItsOwnTurn, IsPlanted, ShowColoursBelow}
use Rattle.puzzle_maker.specs.Plans.{AsksAsPlanned}
use Rattle.puzzle_maker.specs.declared.plans.Plan.{Plan}

-- on how many sides of tiles the colour is
abbrev pub sides_showing : (colour : ℕ) → Task → ℕ
sides_showing colour p = sum_by (count_by (λ shown. shown == colour)) p.words

-- The colour is that of a frame: the border asks each outer side for it, and tiles show it on no more sides than there are
-- outer sides.
pub record IsFrameOf (m : Task) (colour : ℕ) : Type 0 where
  pub border : m.border ≡ one colour
  pub outer : List (ℕ × ℕ)
  pub order : IsBorderOrder m.board outer
  pub few : sides_showing colour m ≤ length outer

-- a colour for inner sides: neither that of a frame nor the mate of that
abbrev pub IsInnerColour : Task → (colour : ℕ) → Type 0
IsInnerColour m colour = (frame : ℕ) → IsFrameOf m frame → (colour ≢ frame) × (mate_of m colour ≢ frame)

-- The colour is not that of the frame, nor is its mate.
abbrev pub IsInside : (mates : List ℕ) → (frame : Option ℕ) → (colour : ℕ) → Type 0
IsInside mates frame colour = (outside : ℕ) → frame ≡ Some outside → (colour ≢ outside) × (mate_in mates colour ≢ outside)

-- There is no colour for inner sides, or the border asks for a colour that there isn't.
abbrev pub HasFewColours : Task → (colours : ℕ) → Type 0
HasFewColours m colours =
    ((colour : ℕ) → colour < colours → IsInnerColour m colour → ⊥)
    ⊎ (((place colour : ℕ) → StandsInRule m.border place colour → colour < colours) → ⊥)

-- No puzzle can be like the model as is asked, for this reason.
abbrev pub MisfitsLike : Task → Draft → Misfit → Type 0
MisfitsLike m d EmptyBoard = ⊥
MisfitsLike m d LargeBoard = ⊥
MisfitsLike m d FixedTriangles = ⊥
MisfitsLike m d FewColours = HasFewColours m d.colours
MisfitsLike m d ManyColours = MOST_COLOURS < d.colours
MisfitsLike m d OddMates = ⊥
MisfitsLike m d LoneMate = (colour : ℕ) × (colour < d.colours) × (d.colours ≤ mate_of m colour)
MisfitsLike m d ManyTiles = MOST_TILES < cell_count m.board + d.spare
MisfitsLike m d ManyClues = cell_count m.board < d.clues

-- the first reason why no puzzle can be like the model as is asked
abbrev pub IsFirstMisfitLike : Task → Draft → Misfit → Type 0
IsFirstMisfitLike m d misfit = IsFirst misfit_rank (MisfitsLike m d) misfit

-- There is no misfit, and what there is is within the limits.
pub record FitsLike (m : Task) (d : Draft) : Type 0 where
  pub colours : d.colours ≤ MOST_COLOURS
  pub tiles : cell_count m.board + d.spare ≤ MOST_TILES
  pub clues : d.clues ≤ cell_count m.board
  pub fits : (misfit : Misfit) → MisfitsLike m d misfit → ⊥

-- the version of a puzzle on this board that has no spare tiles and no clues: 2 on a shape, or where there are mates
abbrev pub plain_version_on : Figure → (mates : List ℕ) → ℕ
plain_version_on (Rectangle width height) mates = if length mates == 0 then 1 else 2
plain_version_on (Triangle size) mates = if length mates == 0 then 1 else 2
plain_version_on (Hexagon size) mates = if length mates == 0 then 1 else 2
plain_version_on (Shape width height mask) mates = 2

-- the version of a puzzle on this board, with so many spare tiles and clues: 3 where it has any
abbrev pub version_on : Figure → (mates : List ℕ) → (further : ℕ) → ℕ
version_on board mates further = if further == 0 then plain_version_on board mates else 3

-- a puzzle like the model, whatever clues it has: with its board, turns, border and mates, and with tiles as are asked for
pub record IsLike (m : Task) (d : Draft) (p : Task) : Type 0 where
  pub board : p.board ≡ m.board
  pub turns : p.turns ≡ m.turns
  pub border : p.border ≡ m.border
  pub mates : p.mating.mates ≡ m.mating.mates
  pub version : p.mating.version ≡ version_on m.board m.mating.mates (d.spare + d.clues)
  pub tiles : length p.words ≡ cell_count m.board + d.spare
  pub colours : ShowColoursBelow d.colours p

-- How many arrangements there may be where they are to be few: one, or as many as there are turns of the board, where
-- tiles may be turned and there are no clues.
abbrev pub MayHave : Task → Draft → (most : ℕ) → Type 0
MayHave m d most = (most ≡ 1) ⊎ ((m.turns ≡ true) × (d.clues ≡ 0) × HasTurns m most)

-- A puzzle like the model, with an arrangement that was planted, and as many clues. Where they are asked to be, tiles are
-- different, and arrangements few.
pub record IsMadeLike (m : Task) (d : Draft) (p : Task) : Type 0 where
  pub like : IsLike m d p
  pub planted : (a : List Placement) × IsPlanted (IsFrameOf m) p a
  pub clues : length p.clues ≡ d.clues
  pub different : d.is_different ≡ true → AreAllDifferent p
  pub turned : d.is_different ≡ true → IsNoneItsOwnTurn p
  pub unique : d.is_unique ≡ true → (most : ℕ) × MayHave m d most × HasAtMost most p

-- the plan of a puzzle that is like the model
pub record IsPlanLike (m : Task) (d : Draft) (n : Plan) : Type 0 where
  pub draft : n.draft ≡ d
  pub board : n.board ≡ m.board
  pub turns : n.turns ≡ m.turns
  pub border : (rule : BorderRule) → AsksAsPlanned n.outside rule → rule ≡ m.border
  pub version : n.version ≡ version_on m.board m.mating.mates (d.spare + d.clues)
  pub mates : n.mates.items ≡ m.mating.mates
  pub frame : (colour : ℕ) → IsFrameOf m colour → n.frame ≡ Some colour
  pub most : MayHave m d n.most
