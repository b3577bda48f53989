use Rattle.std.proofs.Common.{refl}
use Rattle.cert_text.specs.CertificateText.{certificate_text}
use Rattle.cert_text.proofs.readers.read_beginning.Goals as goal

pub returns-clause-begins : goal.returns-clause-begins
unfolding certificate_text
returns-clause-begins c =
    let many = rw c.from.ensures at c.in_ok-many.ensures.gives in
    let symmetries = rw c.ranges_of.ensures.value at c.in_ok-symmetries.ensures in
    rw (c.in_ok-version.ensures.gives, many, symmetries, c.in_ok-count.ensures.gives) refl
