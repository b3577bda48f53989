use Rattle.std.proofs.Common.{◌≡◌}
use Rattle.match_board.specs.Tile.{word}
use Rattle.match_text.specs.PuzzleSpelling.{tile_words}
use Rattle.text_words.proofs.WritingLemmas.{first_lines}
use Rattle.command_runs.proofs.tile_runs.write_tile_lines.Given as goal

abbrev pub invariant-loop-tile : goal.invariant-loop-tile
invariant-loop-tile l = l.text.items ≡ first_lines (λ tile. tile_words (word tile)) l.tiles l.tile-index
