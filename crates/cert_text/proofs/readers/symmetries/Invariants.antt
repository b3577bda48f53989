use Rattle.std.proofs.Common.{◌≡◌, ◌-◌}
use Rattle.text_words.specs.Place.{times}
use Rattle.cert_text.specs.CertificateText.{symmetry_line}
use Rattle.text_words.proofs.LoopLemmas.{with_front}
use Rattle.cert_text.proofs.readers.symmetries.Given as goal

abbrev pub invariant-loop : goal.invariant-loop
invariant-loop l = with_front l.lines.items (times (l.count - l.counter) (symmetry_line l.ranges) l.scan) ≡ times l.count (symmetry_line l.ranges) l.fn.scan
