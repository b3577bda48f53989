use Rattle.std.proofs.Common.{◌≡◌, ◌++◌}
use Rattle.text_words.proofs.WritingLemmas.{first_lines}
use Rattle.cert_text.specs.CertificateSpelling.{lemma_words}
use Rattle.cert_text.proofs.spellings.put_lemmas.Given as goal

abbrev pub invariant-loop-number : goal.invariant-loop-number
invariant-loop-number l = l.text.items ≡ l.fn.text.items ++ first_lines lemma_words l.lemmas l.number
