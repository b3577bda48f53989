use Rattle.std.proofs.Common.{◌<◌, ◌≤◌, ℕ, Contains, slice_index_or, length, [], map}
use Rattle.match_board.specs.declared.figures.Figure.{Figure}
use Rattle.match_board.specs.Tile.{word}
use Rattle.match_board.specs.Clues.{clue_of, AsksByClue}
use Rattle.match_puzzle.specs.Puzzle.{task_by}
use Rattle.match_board.specs.Borders.{rule_of, StandsInRule}
use Rattle.match_puzzle.specs.Colours.{HasColour}
use Rattle.match_puzzle.proofs.tables.colour_count.Given as goal

abbrev pub invariant-loop-tile : goal.invariant-loop-tile
invariant-loop-tile l = record {
  border : (place colour : ℕ) → StandsInRule (rule_of l.rules.border.now) place colour → colour < l.count;
  above : (k colour : ℕ) → k < l.tile-index → Contains (slice_index_or (map word l.tiles) k []) colour → colour < l.count;
  mates : length l.rules.mates.now ≤ l.count;
  clues : (cell side colour : ℕ) → AsksByClue (map clue_of l.rules.clues.now) cell side colour → colour < l.count;
  least : (board : Figure) (version other : ℕ) → ((colour : ℕ) → HasColour (task_by board l.rules version l.tiles) colour → colour < other) → l.count ≤ other;
}
