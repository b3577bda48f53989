use Rattle.std.proofs.Common.{◌+◌, ◌-◌, arith}
use Rattle.std.proofs.lemmas.Result.{err_from_is_err_and}
use Rattle.text_words.specs.Place.{times}
use Rattle.match_text.specs.Lists.{arrangement_line}
use Rattle.text_words.proofs.LoopLemmas.{times_goes_on, times_fail, times_done}
use Rattle.match_text.proofs.lists.arrangements.Goals as goal

pub returns-in_err-arrangement : goal.returns-in_err-arrangement
returns-in_err-arrangement c =
    let p = err_from_is_err_and c.from_residual-in_err-arrangement.result c.from_residual-in_err-arrangement.ensures.1 in
    rw (p.1, p.2) (times_fail (arrangement_line c.args.ranges.now) c.loop.scan (c.args.count - c.loop.counter) (c.args.count - (c.loop.counter + 1)) c.loop.rows.items c.in_err-arrangement.field-0.0 (times c.args.count (arrangement_line c.args.ranges.now) c.args.scan.now) (omega arith) c.in_err-arrangement.ensures c.loop.invariant)

pub loop-preserved : goal.loop-preserved
loop-preserved c =
    times_goes_on (arrangement_line c.args.ranges.now) c.loop.scan c.arrangement.new.scan (c.args.count - c.loop.counter) (c.args.count - (c.loop.counter + 1)) c.loop.rows.items c.push.new.self.items c.in_ok-arrangement.arrangement (times c.args.count (arrangement_line c.args.ranges.now) c.args.scan.now) (omega arith) c.in_ok-push.ensures.items c.in_ok-arrangement.ensures c.loop.invariant

pub returns : goal.returns
returns c = times_done (arrangement_line c.args.ranges.now) c.loop.scan (c.args.count - c.loop.counter) c.loop.rows.items (times c.args.count (arrangement_line c.args.ranges.now) c.args.scan.now) (omega arith) c.loop.invariant
