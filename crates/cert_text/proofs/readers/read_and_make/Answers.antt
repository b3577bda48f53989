use Rattle.cert_text.specs.Lines.{said_of}
use Rattle.cert_text.proofs.CertificateTextLemmas.{certificate_found}
use Rattle.cert_text.proofs.readers.read_and_make.Goals as goal

pub made-requires : goal.made-requires
made-requires c = (certificate_found c.args.text.now (said_of c.in_ok-lines.lines) c.in_ok-lines.ensures).0
