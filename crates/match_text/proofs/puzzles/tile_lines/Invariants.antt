use Rattle.std.proofs.Common.{◌≡◌, ◌-◌, map}
use Rattle.match_board.specs.Tile.{word}
use Rattle.text_words.specs.Place.{times}
use Rattle.match_text.specs.Puzzles.{tile_line}
use Rattle.text_words.proofs.LoopLemmas.{with_front}
use Rattle.match_text.proofs.puzzles.tile_lines.Given as goal

abbrev pub invariant-loop : goal.invariant-loop
invariant-loop l = with_front (map word l.tiles.items) (times (l.count - l.counter) tile_line l.scan) ≡ times l.count tile_line l.fn.scan
