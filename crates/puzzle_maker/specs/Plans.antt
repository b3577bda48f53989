-- What is planned of a puzzle, and what a puzzle has that was made by a plan.
use Rattle.std.specs.Prelude.{◌≡◌, ◌+◌, ℕ, true, List, Some, length, map}
use Rattle.match_board.specs.Board.{cell_count}
use Rattle.match_board.specs.Borders.{BorderRule, each, rule_of}
use Rattle.match_puzzle.specs.Puzzle.{Task}
use Rattle.match_puzzle.specs.declared.placements.Placement.{Placement}
use Rattle.puzzle_drafts.specs.Drafts.{AreMatesAsked, figure_of, most_arrangements, version_of}
use Rattle.puzzle_drafts.specs.declared.drafts.BorderKind.TheVariants.{Frame}
use Rattle.puzzle_drafts.specs.declared.drafts.Draft.{Draft}
use Rattle.puzzle_drafts.specs.declared.drafts.PlainRules.{PlainRules}
use Rattle.puzzle_maker.specs.Made.{AreAllDifferent, AsksAsDrafted, HasAtMost, IsNoneItsOwnTurn, IsPlanted}
use Rattle.puzzle_maker.specs.Made.{ShowColoursBelow}
use Rattle.puzzle_maker.specs.declared.outsides.Outside.{Outside}
use Rattle.puzzle_maker.specs.declared.outsides.Outside.TheVariants.{Asked, Drawn}
use Rattle.puzzle_maker.specs.declared.plans.Plan.{Plan}

-- The border asks for what is given, or for some colour on each outer side.
abbrev pub AsksAsPlanned : Outside → BorderRule → Type 0
AsksAsPlanned (Asked border) rule = rule ≡ rule_of border
AsksAsPlanned Drawn rule = (colours : List ℕ) × (rule ≡ each (map Some colours))

-- The board, the turns, the border, the version and the mates are those of the plan.
pub record AreRulesAsPlanned (n : Plan) (p : Task) : Type 0 where
  pub board : p.board ≡ n.board
  pub turns : p.turns ≡ n.turns
  pub border : AsksAsPlanned n.outside p.border
  pub version : p.mating.version ≡ n.version
  pub mates : p.mating.mates ≡ n.mates.items

-- a puzzle by the plan, whatever clues it has: with as many tiles, and no further colours on them
pub record IsAsPlanned (n : Plan) (p : Task) : Type 0 where
  pub rules : AreRulesAsPlanned n p
  pub tiles : length p.words ≡ cell_count n.board + n.draft.spare
  pub colours : ShowColoursBelow n.draft.colours p

-- A puzzle by the plan, with an arrangement that was planted, and as many clues. Where they are asked to be, tiles are
-- different, and arrangements no more than the plan says.
pub record IsMadeAsPlanned (n : Plan) (p : Task) : Type 0 where
  pub planned : IsAsPlanned n p
  pub planted : (a : List Placement) × IsPlanted (λ colour. n.frame ≡ Some colour) p a
  pub clues : length p.clues ≡ n.draft.clues
  pub different : n.draft.is_different ≡ true → AreAllDifferent p
  pub turned : n.draft.is_different ≡ true → IsNoneItsOwnTurn p
  pub unique : n.draft.is_unique ≡ true → HasAtMost n.most p

-- the plan of a puzzle on a plain board
pub record IsPlanOf (r : PlainRules) (d : Draft) (n : Plan) : Type 0 where
  pub draft : n.draft ≡ d
  pub board : n.board ≡ figure_of r.board
  pub turns : n.turns ≡ r.turns
  pub border : (rule : BorderRule) → AsksAsPlanned n.outside rule → AsksAsDrafted r.border rule
  pub version : n.version ≡ version_of r d
  pub mates : AreMatesAsked r d n.mates.items
  pub frame : r.border ≡ Frame → n.frame ≡ Some 0
  pub most : n.most ≡ most_arrangements r d
