use Rattle.std.proofs.Common.{◌≡◌, ◌≢◌, ℕ, Bool, true, false, List, Ok}
use Rattle.std.specs.Prelude.{MatchBool}
use Rattle.cert_tree.specs.Certificate.{Contents}
use Rattle.cert_text.specs.CertificateText.{certificate_of}
use Rattle.cert_text.specs.CertificateSpelling.{certificate_spelling, IsCertificateWithin}
use Rattle.cert_text.specs.Writing.{said_by}
use Rattle.cert_text.proofs.CertificateTextLemmas.{certificate_found, certificate_only}
use Rattle.cert_text.proofs.WiderLemmas.{within_second}
use Rattle.cert_text.proofs.limits.CertificateWithinLimits.within_limits.Goals as goal

-- what version 2 can't say has no text of either version
spelled_by : (c : Contents) (b : Bool) → MatchBool b (IsCertificateWithin (said_by 2 c)) (IsCertificateWithin (said_by 2 c) → ⊥)
    → MatchBool b ((version : ℕ) × (text : List ℕ) × (certificate_of text ≡ Ok (said_by version c))) ((version : ℕ) (text : List ℕ) → certificate_of text ≢ Ok (said_by version c))
spelled_by c true is = (2, certificate_spelling (said_by 2 c), certificate_only (said_by 2 c) is)
spelled_by c false not = λ version text e. not (within_second (said_by version c) (certificate_found text (said_by version c) e).0)

pub returns-clause-spelled : goal.returns-clause-spelled
returns-clause-spelled c = spelled_by c.args.self.now c.is_certificate_within.result c.is_certificate_within.ensures
