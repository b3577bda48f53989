use Rattle.std.proofs.Common.{◌≡◌, ◌++◌, IfSome, Ok, ℕ, ap, subst, sym, ◌∙◌}
use Rattle.text_words.specs.Spelling.{end_lines, text_of}
use Rattle.cert_text.specs.CertificateSpelling.{certificate_spelling, lemma_lines}
use Rattle.cert_text.specs.CertificateText.{Makes, certificate_of}
use Rattle.cert_text.specs.LemmaParts.{AreCut}
use Rattle.cert_text.specs.Writing.{said_by}
use Rattle.cert_text.proofs.CertificateTextLemmas.{certificate_only}
use Rattle.cert_text.proofs.WholeLemmas.{certificate_parts, made_of_itself}
use Rattle.cert_text.proofs.WritingLemmas.{all_parts}
use Rattle.text_crew.specs.Texts.{IsCertificateText}
use Rattle.text_crew.proofs.PartLemmas.{bytes_of, is_text, so_of_parts, within}
use Rattle.text_crew.proofs.writings.write_certificate_with.Goals as goal
use Rattle.text_crew.proofs.writings.write_certificate_with.Goals.{After-drop-parts-2}

pub returns-in_default-clause-text : goal.returns-in_default-clause-text
returns-in_default-clause-text g c =
    so_of_parts (IsCertificateText c.args.certificate.now) c.in_ok-text.text.items c.alone.result
    (record { first = c.in_ok-text.ensures.first; second = c.in_ok-text.ensures.second }) c.alone.ensures

pub certificate_front-requires : goal.certificate_front-requires
certificate_front-requires g c = within c.in_ok-version.version c.args.certificate.now c.in_ok-version.ensures c.requires.within

-- the front, the lines and the last line are the spelling
spelled : (g : _) (c : After-drop-parts-2 g) → (c.in_ok-front.front.items ++ bytes_of c.in_ok-lines.lines) ++ text_of end_lines ≡ certificate_spelling (said_by c.in_ok-version.version c.args.certificate.now)
spelled g c =
    let parts = c.in-Some.parts in
    let same : parts.lemmas.now ≡ c.lemmas.result.now = subst (λ o. IfSome o (λ p. p.lemmas.now ≡ c.lemmas.result.now)) c.in-Some.is c.in_ok-parts.ensures.lemmas in
    let cut : AreCut parts.lemmas.now parts.starts.items = subst (λ o. IfSome o (λ p. AreCut p.lemmas.now p.starts.items)) c.in-Some.is c.in_ok-parts.ensures.cut in
    let lines = all_parts parts.lemmas.now parts.starts.items c.in_ok-lines.lines.items cut c.in_ok-lines.ensures ∙ ap lemma_lines (same ∙ c.lemmas.ensures.lemmas) in
    rw (c.in_ok-front.ensures, lines) (sym (certificate_parts c.in_ok-version.version c.args.certificate.now))

pub returns-clause-text : goal.returns-clause-text
returns-clause-text g c =
    so_of_parts (IsCertificateText c.args.certificate.now) _ c.between.result
    (is_text c.in_ok-version.version c.args.certificate.now c.in_ok-version.ensures _ (spelled g c)) c.between.ensures

pub returns-clause-reads : goal.returns-clause-reads
returns-clause-reads g c =
    let v = c.in_ok-version.version in
    let certificate = c.args.certificate.now in
    so_of_parts (λ text. (version : ℕ) × (certificate_of text ≡ Ok (said_by version certificate)) × Makes (said_by version certificate) (Ok certificate)) _ c.between.result
    (v, ap certificate_of (spelled g c) ∙ certificate_only (said_by v certificate) (within v certificate c.in_ok-version.ensures c.requires.within), made_of_itself v certificate c.lemmas.ensures.numbered)
    c.between.ensures
