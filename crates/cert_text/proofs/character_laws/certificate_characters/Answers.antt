use Rattle.cert_text.proofs.CertificateCharacterLemmas.{certificates_are}
use Rattle.cert_text.proofs.character_laws.certificate_characters.Goals as goal

pub returns : goal.returns
returns c = certificates_are
