use Rattle.std.proofs.Common.{◌+◌, ◌-◌, map, arith}
use Rattle.std.proofs.lemmas.Result.{err_from_is_err_and}
use Rattle.std.proofs.lemmas.List.{map_push}
use Rattle.match_board.specs.Clues.{clue_of}
use Rattle.text_words.specs.declared.faults.ReadFault.TheVariants as faults
use Rattle.text_words.specs.Place.{times}
use Rattle.match_text.specs.Puzzles.{clue_line}
use Rattle.text_words.proofs.LoopLemmas.{times_goes_on, times_fail, times_done}
use Rattle.match_text.proofs.puzzles.clue_lines.Goals as goal

pub returns-in_err-clue : goal.returns-in_err-clue
returns-in_err-clue c =
    let p = err_from_is_err_and c.from_residual.result c.from_residual.ensures.1 in
    rw (p.1, p.2) (times_fail clue_line c.loop.scan (c.args.count - c.loop.counter) (c.args.count - (c.loop.counter + 1)) (map clue_of c.loop.clues.items) (faults.Text c.in_err-clue.field-0.0) (times c.args.count clue_line c.args.scan.now) (omega arith) c.in_err-clue.ensures c.loop.invariant)

pub loop-preserved : goal.loop-preserved
loop-preserved c =
    times_goes_on clue_line c.loop.scan c.clue_line.new.scan (c.args.count - c.loop.counter) (c.args.count - (c.loop.counter + 1)) (map clue_of c.loop.clues.items) (map clue_of c.push.new.self.items) (clue_of c.in_ok-clue.clue) (times c.args.count clue_line c.args.scan.now) (omega arith)
    (rw c.in_ok-push.ensures.items (map_push clue_of c.loop.clues.items c.in_ok-clue.clue)) c.in_ok-clue.ensures c.loop.invariant

pub returns : goal.returns
returns c = times_done clue_line c.loop.scan (c.args.count - c.loop.counter) (map clue_of c.loop.clues.items) (times c.args.count clue_line c.args.scan.now) (omega arith) c.loop.invariant
