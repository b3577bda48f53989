use Rattle.std.proofs.Common.{[], ℕ, List, sym, ap, ◌∙◌, arith}
use Rattle.std.proofs.lemmas.Simd.{map-map}
use Rattle.match_board.specs.Tile.{word}
use Rattle.match_board.specs.declared.tiles.Tile.{Tile}
use Rattle.text_words.specs.Spelling.{text_of}
use Rattle.match_text.specs.PuzzleSpelling.{tile_words}
use Rattle.text_words.proofs.WritingLemmas.{no_line, one_line, all_lines}
use Rattle.command_runs.proofs.tile_runs.write_tile_lines.Goals as goal

abbrev words : Tile → List (List ℕ)
words tile = tile_words (word tile)

pub loop-tile-init : goal.loop-tile-init
loop-tile-init c = c.new-text.ensures.items ∙ no_line words c.args.tiles.now []

pub loop-tile-preserved : goal.loop-tile-preserved
loop-tile-preserved c =
    one_line words c.args.tiles.now [] c.loop-tile.text.items c.put_tile_line.new.text.items c.loop-tile.tile-index c.tile-item.result (omega arith) c.tile-item.is c.loop-tile.invariant c.in_ok-put_tile_line.ensures

pub returns : goal.returns
returns c =
    c.loop-tile.invariant ∙ all_lines words c.args.tiles.now [] c.loop-tile.tile-index (omega arith) ∙ ap text_of (sym (map-map tile_words word c.args.tiles.now))
