use Rattle.std.proofs.Common.{sym, ap, ◌∙◌}
use Rattle.cert_text.specs.CertificateText.{certificate_of}
use Rattle.cert_text.specs.Writing.{said_by}
use Rattle.cert_text.proofs.CertificateTextLemmas.{certificate_only}
use Rattle.cert_text.proofs.WholeLemmas.{made_of_itself, certificate_parts}
use Rattle.cert_text.proofs.spellings.certificate_text.Goals as goal

pub returns-clause-spelling : goal.returns-clause-spelling
returns-clause-spelling c =
    rw (c.in_ok-put_end.ensures, c.in_ok-put_lemmas.ensures, c.in_ok-text.ensures, c.lemmas.ensures.lemmas) (sym (certificate_parts c.args.version c.args.certificate.now))

pub returns-clause-reads : goal.returns-clause-reads
returns-clause-reads c =
    (ap certificate_of (returns-clause-spelling c) ∙ certificate_only (said_by c.args.version c.args.certificate.now) c.requires, made_of_itself c.args.version c.args.certificate.now c.lemmas.ensures.numbered)
