use Rattle.std.proofs.Common.{◌∙◌}
use Rattle.cert_text.specs.Lines.{said_of}
use Rattle.cert_text.proofs.CertificateTextLemmas.{certificate_found}
use Rattle.cert_text.proofs.parts.CutCertificate.join.Goals as goal

pub made-requires : goal.made-requires
made-requires c = (certificate_found c.requires.cut.0 (said_of c.in_ok-lines.lines) (c.requires.cut.1 ∙ c.in_ok-lines.ensures)).0
