use Rattle.text_words.proofs.TextLaws.{reads_what_is_spelled}
use Rattle.cert_text.specs.CertificateText.{certificate_of}
use Rattle.cert_text.specs.CertificateSpelling.{certificate_spelling, IsCertificateWithin}
use Rattle.cert_text.proofs.CertificateTextLemmas.{certificate_found, certificate_only, certificate_short}
use Rattle.cert_text.proofs.LawLemmas.{one_made_in_any_order}
use Rattle.cert_text.proofs.laws.certificate_laws.Goals as goal

pub returns : goal.returns
returns c = record {
  spelled = reads_what_is_spelled certificate_of IsCertificateWithin certificate_spelling certificate_found certificate_only certificate_short;
  any_order = one_made_in_any_order;
}
