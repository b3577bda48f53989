-- What is written of a certificate.
use Rattle.std.specs.Prelude.{ℕ}
use Rattle.cert_tree.specs.Certificate.{Contents}
use Rattle.cert_text.specs.CertificateText.{Said}

-- what the text of a certificate in a version says, its lemmas by number
abbrev pub said_by : (version : ℕ) → Contents → Said
said_by version c = record { version = version; symmetries = c.symmetries; pieces = c.lemmas }
