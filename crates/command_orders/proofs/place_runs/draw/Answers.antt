use Rattle.std.specs.String.{string_bytes}
use Rattle.byte_streams.specs.Moves.{writing_of}
use Rattle.command_words.specs.declared.places.Place.TheVariants.{File, Input}
use Rattle.command_runs.specs.Runs.{unhinted}
use Rattle.command_orders.proofs.OrderLemmas.{opened_as, over_two_at}
use Rattle.command_orders.proofs.place_runs.draw.Goals as goal

pub returns-in_ok-list-in-File-File-clause-run : goal.returns-in_ok-list-in-File-File-clause-run
returns-in_ok-list-in-File-File-clause-run g c =
    let two = c.in-File-File in
    let puzzle = c.in_ok-puzzle-in-File-File in
    let list = c.in_ok-list-in-File-File in
    over_two_at g.S.FileSystem g.S.Reader.Source c.args.system.now g.I.Source c.args.input.now c.args.input.now c.args.order.now.drawing c.args.order.now.places.now
    (File two.puzzle) (File two.list) two.is-0 two.is-1
    (opened_as g.S.FileSystem g.S.Reader.Source c.args.system.now (string_bytes two.puzzle) c.deref.result.now puzzle.puzzle c.draw_from.new.puzzle c.deref.ensures puzzle.ensures.opened)
    (opened_as g.S.FileSystem g.S.Reader.Source c.args.system.now (string_bytes two.list) c.deref-in-File-File.result.now list.list c.draw_from.new.list c.deref-in-File-File.ensures list.ensures.opened)
    (writing_of g.W.Sink c.args.output.now c.draw_from.new.output) (unhinted c.draw_from.result) c.draw_from.ensures

pub returns-in_ok-list-in-Input-File-clause-run : goal.returns-in_ok-list-in-Input-File-clause-run
returns-in_ok-list-in-Input-File-clause-run g c =
    let two = c.in-Input-File in
    let list = c.in_ok-list-in-Input-File in
    let drawn = c.draw_from-in-Input-File in
    over_two_at g.S.FileSystem g.S.Reader.Source c.args.system.now g.I.Source c.args.input.now drawn.new.puzzle c.args.order.now.drawing c.args.order.now.places.now
    Input (File two.list) two.is-0 two.is-1 tt
    (opened_as g.S.FileSystem g.S.Reader.Source c.args.system.now (string_bytes two.list) c.deref-in-Input-File.result.now list.list drawn.new.list c.deref-in-Input-File.ensures list.ensures.opened)
    (writing_of g.W.Sink c.args.output.now drawn.new.output) (unhinted drawn.result) drawn.ensures

pub returns-in_ok-puzzle-in-File-Input-clause-run : goal.returns-in_ok-puzzle-in-File-Input-clause-run
returns-in_ok-puzzle-in-File-Input-clause-run g c =
    let two = c.in-File-Input in
    let puzzle = c.in_ok-puzzle-in-File-Input in
    let drawn = c.draw_from-in-File-Input in
    over_two_at g.S.FileSystem g.S.Reader.Source c.args.system.now g.I.Source c.args.input.now drawn.new.list c.args.order.now.drawing c.args.order.now.places.now
    (File two.puzzle) Input two.is-0 two.is-1
    (opened_as g.S.FileSystem g.S.Reader.Source c.args.system.now (string_bytes two.puzzle) c.deref-in-File-Input.result.now puzzle.puzzle drawn.new.puzzle c.deref-in-File-Input.ensures puzzle.ensures.opened) tt
    (writing_of g.W.Sink c.args.output.now drawn.new.output) (unhinted drawn.result) drawn.ensures
