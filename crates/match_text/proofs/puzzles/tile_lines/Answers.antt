use Rattle.std.proofs.Common.{◌+◌, ◌-◌, map, arith}
use Rattle.std.proofs.lemmas.Result.{err_from_is_err_and}
use Rattle.std.proofs.lemmas.List.{map_push}
use Rattle.match_board.specs.Tile.{word}
use Rattle.text_words.specs.declared.faults.ReadFault.TheVariants as faults
use Rattle.text_words.specs.Place.{times}
use Rattle.match_text.specs.Puzzles.{tile_line}
use Rattle.text_words.proofs.LoopLemmas.{times_goes_on, times_fail, times_done}
use Rattle.match_text.proofs.puzzles.tile_lines.Goals as goal

pub returns-in_err-tile : goal.returns-in_err-tile
returns-in_err-tile c =
    let p = err_from_is_err_and c.from_residual.result c.from_residual.ensures.1 in
    rw (p.1, p.2) (times_fail tile_line c.loop.scan (c.args.count - c.loop.counter) (c.args.count - (c.loop.counter + 1)) (map word c.loop.tiles.items) (faults.Text c.in_err-tile.field-0.0) (times c.args.count tile_line c.args.scan.now) (omega arith) c.in_err-tile.ensures c.loop.invariant)

pub loop-preserved : goal.loop-preserved
loop-preserved c =
    times_goes_on tile_line c.loop.scan c.tile_line.new.scan (c.args.count - c.loop.counter) (c.args.count - (c.loop.counter + 1)) (map word c.loop.tiles.items) (map word c.push.new.self.items) (word c.in_ok-tile.tile) (times c.args.count tile_line c.args.scan.now) (omega arith)
    (rw c.in_ok-push.ensures.items (map_push word c.loop.tiles.items c.in_ok-tile.tile)) c.in_ok-tile.ensures c.loop.invariant

pub returns : goal.returns
returns c = times_done tile_line c.loop.scan (c.args.count - c.loop.counter) (map word c.loop.tiles.items) (times c.args.count tile_line c.args.scan.now) (omega arith) c.loop.invariant
