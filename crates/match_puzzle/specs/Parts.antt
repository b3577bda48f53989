-- What a puzzle is made of.
use Rattle.std.specs.Prelude.{◌≡◌, ◌<◌, ◌≤◌, ◌^◌, [], length}
use Rattle.match_board.specs.Board.{IsShape}
use Rattle.match_board.specs.Borders.{rule_of, IsShortRule}
use Rattle.match_board.specs.Mates.{IsOfVersion, mating_of}
use Rattle.match_puzzle.specs.Puzzle.{Task, task_by}
use Rattle.match_puzzle.specs.declared.parts.PuzzleParts.{PuzzleParts}

-- the puzzle of these parts
abbrev pub task_of_parts : PuzzleParts → Task
task_of_parts parts = task_by parts.board parts.rules.now parts.version parts.tiles.now

-- lists whose places have numbers of 32 bits; a version that there is; a shape only from version 2 on, and clues only
-- in version 3
pub record AreParts (parts : PuzzleParts) : Type 0 where
  pub tiles : length parts.tiles.now < 2 ^ 32
  pub border : IsShortRule (rule_of parts.rules.now.border.now)
  pub mates : length parts.rules.now.mates.now < 2 ^ 32
  pub clues : length parts.rules.now.clues.now < 2 ^ 32
  pub version : IsOfVersion (mating_of parts.version parts.rules.now.mates.now)
  pub shapes : IsShape parts.board → 2 ≤ parts.version
  pub without : parts.version < 3 → parts.rules.now.clues.now ≡ []
