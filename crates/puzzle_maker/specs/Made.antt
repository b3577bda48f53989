-- What a puzzle that was made has.
use Rattle.std.specs.Prelude.{◌≡◌, ◌≢◌, ◌⊎◌, ◌<◌, ◌≤◌, ℕ, true, List, Some, Contains, length, map, slice_get}
use Rattle.match_board.specs.Board.{side_count, Meets}
use Rattle.match_board.specs.Borders.{BorderRule, free, one, each}
use Rattle.match_board.specs.Clues.{Clue, AsksByClue}
use Rattle.match_board.specs.Turns.{IsPeriod}
use Rattle.match_puzzle.specs.Arrangement.{HasArrangements, IsArrangement, Stands}
use Rattle.match_puzzle.specs.EqualTiles.{AreEqualTiles}
use Rattle.match_puzzle.specs.Puzzle.{Task, colour_of, word_of}
use Rattle.match_puzzle.specs.declared.placements.Placement.{Placement}
use Rattle.puzzle_drafts.specs.Drafts.{AreMatesAsked, figure_of, most_arrangements, tiles_of, version_of}
use Rattle.puzzle_drafts.specs.declared.drafts.BorderKind.{BorderKind}
use Rattle.puzzle_drafts.specs.declared.drafts.BorderKind.TheVariants.{Frame, One, Free, Each}
use Rattle.puzzle_drafts.specs.declared.drafts.Choice.TheVariants.{First}
use Rattle.puzzle_drafts.specs.declared.drafts.Draft.{Draft}
use Rattle.puzzle_drafts.specs.declared.drafts.PlainRules.{PlainRules}

-- What the border asks: colour 0 on each outer side, nothing, or a colour on each.
abbrev pub AsksAsDrafted : BorderKind → BorderRule → Type 0
AsksAsDrafted Frame rule = rule ≡ one 0
AsksAsDrafted One rule = rule ≡ one 0
AsksAsDrafted Free rule = rule ≡ free
AsksAsDrafted Each rule = (colours : List ℕ) × (rule ≡ each (map Some colours))

-- The board, the turns, the border, the version and the mates are those that are asked for.
pub record AreRulesAsDrafted (r : PlainRules) (d : Draft) (p : Task) : Type 0 where
  pub board : p.board ≡ figure_of r.board
  pub turns : p.turns ≡ r.turns
  pub border : AsksAsDrafted r.border p.border
  pub version : p.mating.version ≡ version_of r d
  pub mates : AreMatesAsked r d p.mating.mates

-- Tiles show no colours but those below `colours`.
abbrev pub ShowColoursBelow : (colours : ℕ) → Task → Type 0
ShowColoursBelow colours p =
    (tile colour : ℕ) → tile < length p.words → Contains (word_of p tile) colour → colour < colours

-- a puzzle as is asked, whatever clues it has: with as many tiles, and no further colours on them
pub record IsAsDrafted (r : PlainRules) (d : Draft) (p : Task) : Type 0 where
  pub rules : AreRulesAsDrafted r d p
  pub tiles : length p.words ≡ tiles_of r d
  pub colours : ShowColoursBelow d.colours p

-- The side meets none, or doesn't show the colour.
abbrev pub ShowsNoneInsideAt : (colour : ℕ) → Task → List Placement → (cell side : ℕ) → Type 0
ShowsNoneInsideAt colour p a cell side =
    (other met : ℕ) (x : Placement) → Meets p.board cell side other met → Stands a cell x → colour_of p x side ≢ colour

-- No side that meets another shows the colour.
abbrev pub ShowsNoneInside : (colour : ℕ) → Task → List Placement → Type 0
ShowsNoneInside colour p a = (cell side : ℕ) → ShowsNoneInsideAt colour p a cell side

-- A clue asks the side for the colour that the arrangement shows there.
abbrev pub AskForShownAt : Task → List Placement → (cell side : ℕ) → Type 0
AskForShownAt p a cell side = (x : Placement) → Stands a cell x → AsksByClue p.clues cell side (colour_of p x side)

-- Clues ask for all that the arrangement shows at the cell.
abbrev pub AskForAllShownAt : Task → List Placement → (cell : ℕ) → Type 0
AskForAllShownAt p a cell = (side : ℕ) → side < side_count p.board → AskForShownAt p a cell side

-- Clues ask for all that the arrangement shows at the cell of each clue.
abbrev pub AskForAllShown : Task → List Placement → Type 0
AskForAllShown p a = (number : ℕ) (c : Clue) → slice_get p.clues number ≡ Some c → AskForAllShownAt p a c.cell

-- An arrangement of the puzzle. It shows a frame's colour outside alone, and clues ask for all that it shows at their
-- cells.
pub record IsPlanted (IsFrame : ℕ → Type 0) (p : Task) (a : List Placement) : Type 0 where
  pub is : IsArrangement p a
  pub frame : (colour : ℕ) → IsFrame colour → ShowsNoneInside colour p a
  pub clues : AskForAllShown p a

-- the colour of a frame: colour 0
abbrev pub IsFrameColour : PlainRules → (colour : ℕ) → Type 0
IsFrameColour r colour = (r.border ≡ Frame) × (colour ≡ 0)

-- No two tiles are equal.
abbrev pub AreAllDifferent : Task → Type 0
AreAllDifferent p =
    (tile other : ℕ) → tile < other → other < length p.words → AreEqualTiles p tile other → ⊥

-- No tile shows the same after fewer turns than it has sides.
abbrev pub IsNoneItsOwnTurn : Task → Type 0
IsNoneItsOwnTurn p = (tile : ℕ) → tile < length p.words → IsPeriod (word_of p tile) (side_count p.board)

-- The puzzle has no more than `most` arrangements.
abbrev pub HasAtMost : (most : ℕ) → Task → Type 0
HasAtMost most p = (count : ℕ) × HasArrangements p count × (count ≤ most)

-- A puzzle as is asked, with an arrangement that was planted, and as many clues. Where they are asked to be, tiles are
-- different, and arrangements are no more than the turns of the whole board make of one, or just one where there are
-- clues.
pub record IsMade (r : PlainRules) (d : Draft) (p : Task) : Type 0 where
  pub drafted : IsAsDrafted r d p
  pub planted : (a : List Placement) × IsPlanted (IsFrameColour r) p a
  pub clues : length p.clues ≡ d.clues
  pub different : d.is_different ≡ true → AreAllDifferent p
  pub turned : d.is_different ≡ true → IsNoneItsOwnTurn p
  pub unique : d.is_unique ≡ true → HasAtMost (most_arrangements r d) p

-- Candidates are searched: their arrangements are counted, or some of them are found to choose clues by, or their work is
-- guessed.
abbrev pub AreSearched : Draft → Type 0
AreSearched d = (d.is_unique ≡ true) ⊎ (1 ≤ d.clues) ⊎ (d.choice ≢ First)
