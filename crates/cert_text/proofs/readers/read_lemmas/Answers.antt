use Rattle.std.proofs.Common.{◌+◌, ◌-◌, map, arith}
use Rattle.std.proofs.lemmas.Result.{err_from_is_err_and}
use Rattle.text_words.specs.Place.{times}
use Rattle.text_words.proofs.LoopLemmas.{times_goes_on, times_fail, times_done}
use Rattle.cert_tree.specs.Spans.{piece_in}
use Rattle.cert_text.specs.CertificateText.{lemma_line}
use Rattle.cert_tree.proofs.SpanLemmas.{more_spans, more_pieces}
use Rattle.cert_text.proofs.readers.read_lemmas.Goals as goal

pub returns-in_err-span : goal.returns-in_err-span
returns-in_err-span c =
    let p = err_from_is_err_and c.from_residual.result c.from_residual.ensures.1 in
    rw (p.1, p.2) (times_fail (lemma_line c.args.ranges.now) c.loop.scan (c.args.count - c.loop.counter) (c.args.count - (c.loop.counter + 1)) (map (piece_in c.loop.pairs.items c.loop.heads.items) c.loop.spans.items) c.in_err-span.field-0.0 (times c.args.count (lemma_line c.args.ranges.now) c.args.scan.now) (omega arith) c.in_err-span.ensures c.loop.invariant.read)

pub loop-preserved : goal.loop-preserved
loop-preserved c =
    let read = c.in_ok-span.ensures in
    let pushed = c.in_ok-push.ensures.items in
    record {
      spans = more_spans c.loop.pairs.items c.lemma.new.pairs.items c.loop.heads.items c.lemma.new.heads.items read.pairs read.heads c.loop.spans.items c.push.new.self.items c.in_ok-span.span c.loop.invariant.spans read.span pushed;
      read = times_goes_on (lemma_line c.args.ranges.now) c.loop.scan c.lemma.new.scan (c.args.count - c.loop.counter) (c.args.count - (c.loop.counter + 1)) (map (piece_in c.loop.pairs.items c.loop.heads.items) c.loop.spans.items) (map (piece_in c.lemma.new.pairs.items c.lemma.new.heads.items) c.push.new.self.items)
          (piece_in c.lemma.new.pairs.items c.lemma.new.heads.items c.in_ok-span.span) (times c.args.count (lemma_line c.args.ranges.now) c.args.scan.now) (omega arith)
          (more_pieces c.loop.pairs.items c.lemma.new.pairs.items c.loop.heads.items c.lemma.new.heads.items read.pairs read.heads c.loop.spans.items c.push.new.self.items c.in_ok-span.span c.loop.invariant.spans read.span pushed)
          read.reads c.loop.invariant.read;
    }

pub returns : goal.returns
returns c = rw c.in_ok-lemmas.ensures (times_done (lemma_line c.args.ranges.now) c.loop.scan (c.args.count - c.loop.counter) (map (piece_in c.loop.pairs.items c.loop.heads.items) c.loop.spans.items) (times c.args.count (lemma_line c.args.ranges.now) c.args.scan.now) (omega arith) c.loop.invariant.read)
