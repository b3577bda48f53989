use Rattle.std.proofs.Common.{◌≡◌, ◌-◌, map}
use Rattle.text_words.specs.Place.{times}
use Rattle.text_words.proofs.LoopLemmas.{with_front}
use Rattle.cert_tree.specs.Spans.{piece_in, AreSpans}
use Rattle.cert_text.specs.CertificateText.{lemma_line}
use Rattle.cert_text.proofs.readers.read_lemmas.Given as goal

-- These lemmas were read.
abbrev pub invariant-loop : goal.invariant-loop
invariant-loop l = record {
  spans : AreSpans l.pairs.items l.heads.items l.spans.items;
  read : with_front (map (piece_in l.pairs.items l.heads.items) l.spans.items) (times (l.count - l.counter) (lemma_line l.ranges) l.scan) ≡ times l.count (lemma_line l.ranges) l.fn.scan;
}
