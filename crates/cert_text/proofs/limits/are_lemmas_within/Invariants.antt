use Rattle.cert_text.specs.CertificateSpelling.{AreWithinBetween}
use Rattle.cert_text.proofs.limits.are_lemmas_within.Given as goal

abbrev pub invariant-loop-number : goal.invariant-loop-number
invariant-loop-number l = AreWithinBetween l.ranges l.lemmas l.fn.first l.number
