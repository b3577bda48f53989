-- Laws of certificates.
use Rattle.std.specs.Prelude.{◌≡◌, ◌≢◌, Result, Err}
use Rattle.std.specs.List.Sorted.{IsPermutation}
use Rattle.cert_tree.specs.Certificate.{Contents}
use Rattle.cert_text.specs.declared.faults.CertTextFault.{CertTextFault}
use Rattle.cert_text.specs.declared.faults.CertTextFault.TheVariants.{Memory}
use Rattle.cert_text.specs.CertificateText.{Said, Makes}

-- What is made of the same symmetries and of the same lemmas is the same certificate, or the same fault, in whatever
-- version it is said and in whatever order the lemmas are, where no memory is refused.
abbrev pub MakesOneInAnyOrder : Type 0
MakesOneInAnyOrder =
    (said other : Said) (a b : Result Contents CertTextFault) → said.symmetries ≡ other.symmetries
    → IsPermutation said.pieces other.pieces → a ≢ Err Memory → b ≢ Err Memory
    → Makes said a → Makes other b → a ≡ b
