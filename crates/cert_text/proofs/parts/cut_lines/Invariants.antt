use Rattle.std.proofs.Common.{◌≡◌, ◌+◌, ◌≤◌, length}
use Rattle.match_limits.specs.Ranges.{ranges_of}
use Rattle.text_words.specs.Place.{times}
use Rattle.cert_text.specs.CertificateText.{lemma_line}
use Rattle.cert_text.specs.Parts.{parts_say}
use Rattle.cert_text.proofs.PartLemmas.{followed}
use Rattle.cert_text.proofs.parts.cut_lines.Given as goal

-- The lines that were cut off are those of the parts.
abbrev pub invariant-loop-left : goal.invariant-loop-left
invariant-loop-left l = record {
  cut : followed (parts_say l.parts.items) (times l.left (lemma_line (ranges_of l.version)) l.scan) ≡ times l.count (lemma_line (ranges_of l.version)) l.fn.scan;
  few : length l.parts.items + l.left ≤ l.count;
}

abbrev pub decreases-loop-left : goal.decreases-loop-left
decreases-loop-left l = l.left
