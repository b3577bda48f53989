use Rattle.std.proofs.Common.{◌+◌, ◌-◌, arith}
use Rattle.std.proofs.lemmas.Result.{err_from_is_err_and}
use Rattle.text_words.specs.Place.{times}
use Rattle.cert_text.specs.CertificateText.{symmetry_line}
use Rattle.text_words.proofs.LoopLemmas.{times_goes_on, times_fail, times_done}
use Rattle.cert_text.proofs.readers.symmetries.Goals as goal

pub returns-in_err-line : goal.returns-in_err-line
returns-in_err-line c =
    let p = err_from_is_err_and c.from_residual.result c.from_residual.ensures.1 in
    rw (p.1, p.2) (times_fail (symmetry_line c.args.ranges.now) c.loop.scan (c.args.count - c.loop.counter) (c.args.count - (c.loop.counter + 1)) c.loop.lines.items c.in_err-line.field-0.0 (times c.args.count (symmetry_line c.args.ranges.now) c.args.scan.now) (omega arith) c.in_err-line.ensures c.loop.invariant)

pub loop-preserved : goal.loop-preserved
loop-preserved c =
    times_goes_on (symmetry_line c.args.ranges.now) c.loop.scan c.symmetry.new.scan (c.args.count - c.loop.counter) (c.args.count - (c.loop.counter + 1)) c.loop.lines.items c.push.new.self.items c.in_ok-line.line (times c.args.count (symmetry_line c.args.ranges.now) c.args.scan.now) (omega arith) c.in_ok-push.ensures.items c.in_ok-line.ensures c.loop.invariant

pub returns : goal.returns
returns c = times_done (symmetry_line c.args.ranges.now) c.loop.scan (c.args.count - c.loop.counter) c.loop.lines.items (times c.args.count (symmetry_line c.args.ranges.now) c.args.scan.now) (omega arith) c.loop.invariant
