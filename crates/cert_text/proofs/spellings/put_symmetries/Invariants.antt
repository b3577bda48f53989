use Rattle.std.proofs.Common.{◌≡◌, ◌++◌}
use Rattle.text_words.proofs.WritingLemmas.{first_lines}
use Rattle.cert_text.specs.CertificateSpelling.{symmetry_words}
use Rattle.cert_text.proofs.spellings.put_symmetries.Given as goal

abbrev pub invariant-loop-line : goal.invariant-loop-line
invariant-loop-line l = l.text.items ≡ l.fn.text.items ++ first_lines symmetry_words l.lines l.line-index
