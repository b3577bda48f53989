use Rattle.cert_text.specs.CertificateSpelling.{AreLinesBetween}
use Rattle.cert_text.proofs.spellings.write_lemma_lines.Given as goal

abbrev pub invariant-loop-number : goal.invariant-loop-number
invariant-loop-number l = AreLinesBetween l.lemmas l.fn.first l.number l.text.items
