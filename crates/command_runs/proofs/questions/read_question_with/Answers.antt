use Rattle.std.proofs.Common.{◌≡◌, Ok, rules, subst}
use Rattle.std.proofs.lemmas.Result.{err_from_is_err_and}
use Rattle.match_text.specs.Lists.{list_of}
use Rattle.cert_text.specs.CertificateText.{CertificateGives, certificate_of}
use Rattle.byte_streams.specs.LentTexts.{texts_of}
use Rattle.text_crew.specs.Texts.{IsListRead}
use Rattle.command_runs.proofs.RunLemmas.{list_fails, certificate_fails, question_spelled}
use Rattle.command_runs.proofs.questions.read_question_with.Goals as goal

pub returns-in_err-listed-2 : goal.returns-in_err-listed-2
returns-in_err-listed-2 g c =
    let w = err_from_is_err_and c.from_residual-in_err-listed-2.result c.from_residual-in_err-listed-2.ensures.1 in
    let texts = texts_of c.args.documents.now in
    let read = subst (λ x. IsListRead texts.list x) c.in_err-listed-2.was c.in_ok-listed.ensures.list in
    rw w.1 (list_fails texts c.in_err-listed-2.field-0.0 w.0 c.in_ok-puzzle.puzzle c.in_ok-puzzle.ensures.exact read w.2)

pub returns-in_err-certificate : goal.returns-in_err-certificate
returns-in_err-certificate g c =
    let w = err_from_is_err_and c.from_residual-in_err-certificate.result c.from_residual-in_err-certificate.ensures.1 in
    let texts = texts_of c.args.documents.now in
    let lists : list_of texts.list ≡ Ok c.in_ok-listed-2.listed.items = search rules in
    let gives = subst (λ x. CertificateGives x (certificate_of texts.certificate)) c.in_err-certificate.was c.in_ok-listed.ensures.certificate in
    rw w.1 (certificate_fails texts c.in_err-certificate.field-0.0 w.0 c.in_ok-puzzle.puzzle c.in_ok-listed-2.listed.items c.in_ok-puzzle.ensures.exact lists gives w.2)

pub returns : goal.returns
returns g c =
    let texts = texts_of c.args.documents.now in
    let lists : list_of texts.list ≡ Ok c.in_ok-listed-2.listed.items = search rules in
    let gives = subst (λ x. CertificateGives x (certificate_of texts.certificate)) c.in_ok-certificate.was c.in_ok-listed.ensures.certificate in
    (question_spelled texts c.in_ok-puzzle.puzzle c.in_ok-listed-2.listed.items c.in_ok-certificate.certificate c.in_ok-puzzle.ensures.exact lists gives, search rules)
