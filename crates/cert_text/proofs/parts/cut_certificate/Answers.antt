use Rattle.std.proofs.Common.{◌∙◌, ap, subst, sym}
use Rattle.std.proofs.lemmas.Result.{err_from_is_err_and}
use Rattle.text_words.specs.Place.{Fails, Place}
use Rattle.cert_text.specs.declared.parts.CutCertificate.{CutCertificate}
use Rattle.cert_text.specs.CertificateText.{certificate_text}
use Rattle.cert_text.proofs.PartLemmas.{cut_is, fault_before}
use Rattle.cert_text.proofs.parts.cut_certificate.Goals as goal

pub returns-in_err-beginning-clause-cut : goal.returns-in_err-beginning-clause-cut
returns-in_err-beginning-clause-cut c =
    let fault = c.in_err-beginning.field-0.0 in
    let p = err_from_is_err_and c.from_residual.result c.from_residual.ensures.1 in
    rw (p.1, p.2) (fault_before c.args.text.now fault (subst (λ (p : Place). Fails fault (certificate_text p)) c.new-scan.ensures c.in_err-beginning.ensures.begins))

pub returns-clause-cut : goal.returns-clause-cut
returns-clause-cut c =
    let cut : CutCertificate = record { beginning = c.in_ok-beginning.beginning; parts = c.in_ok-parts.parts; end = c.cut_lines.new.scan } in
    cut_is cut c.args.text.now c.read_beginning.new.scan (ap certificate_text (sym c.new-scan.ensures) ∙ c.in_ok-beginning.ensures.begins) c.in_ok-parts.ensures.says
