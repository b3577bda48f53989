use Rattle.std.proofs.Common.{◌+◌, ◌-◌, ◌++◌, arith}
use Rattle.std.proofs.lemmas.List.{length-take}
use Rattle.text_words.specs.Spelling.{text_of}
use Rattle.match_text.specs.PuzzleSpelling.{row_lines}
use Rattle.match_text.proofs.ShapeLemmas.{row_room, row_written, row_left, mask_done}
use Rattle.match_text.proofs.puzzle_spellings.put_mask.Goals as goal

pub loop-preserved : goal.loop-preserved
loop-preserved c =
    let left = c.args.height - c.loop.counter in
    let after = c.args.height - (c.loop.counter + 1) in
    record {
      room = row_left c.from-width.result left after c.loop.rest.now (omega arith) c.loop.invariant.room;
      written = row_written c.from-width.result left after c.loop.rest.now c.loop.text.items c.put_row.new.text.items (c.args.text.now.items ++ text_of (row_lines c.from-width.result c.args.height c.args.mask.now)) (omega arith) c.in_ok-put_row.ensures c.loop.invariant.written;
    }

pub returns : goal.returns
returns c =
    rw (← c.from-width.ensures)
    (mask_done c.from-width.result (c.args.height - c.loop.counter) c.loop.rest.now c.loop.text.items (c.args.text.now.items ++ text_of (row_lines c.from-width.result c.args.height c.args.mask.now)) (omega arith) c.loop.invariant.written)

pub slice_bounds-put_row-end : goal.slice_bounds-put_row-end
slice_bounds-put_row-end c =
    let left = c.args.height - c.loop.counter in
    let room = row_room c.from-width.result left (left - 1) c.loop.rest.now (omega arith) c.loop.invariant.room in
    simp length-take (omega (arith, room))

pub slice_bounds-rest-count : goal.slice_bounds-rest-count
slice_bounds-rest-count c =
    let left = c.args.height - c.loop.counter in
    row_room c.from-width.result left (left - 1) c.loop.rest.now (omega arith) c.loop.invariant.room
