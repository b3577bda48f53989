use Rattle.std.proofs.Common.{ℕ, List, length, subst}
use Rattle.std.specs.Prelude.{MatchBool}
use Rattle.match_limits.specs.Ranges.{ranges_of}
use Rattle.cert_tree.specs.Certificate.{Piece}
use Rattle.cert_text.specs.CertificateSpelling.{AreSymmetriesWithin, AreWithinBetween}
use Rattle.cert_text.proofs.WholeLemmas.{whole_within}
use Rattle.cert_text.proofs.limits.is_certificate_within.Goals as goal

pub returns-then-are_symmetries_within_limits : goal.returns-then-are_symmetries_within_limits
returns-then-are_symmetries_within_limits c =
    let version = c.args.version in
    let ranges = ranges_of version in
    let contents = c.args.certificate.now in
    let b = c.are_lemmas_within_limits.result in
    let Tells : List Piece → ℕ → Type 0 = λ pieces last. MatchBool b (AreWithinBetween ranges pieces 0 last) (AreWithinBetween ranges pieces 0 last → ⊥) in
    let symmetries = subst (AreSymmetriesWithin ranges) c.symmetries.ensures.symmetries c.if-are_symmetries_within_limits.ensures in
    let lemmas = subst (λ pieces. Tells pieces (length pieces)) c.lemmas-lemmas.ensures.lemmas
    (subst (Tells c.lemmas-lemmas.result.now) c.len.ensures c.are_lemmas_within_limits.ensures) in
    whole_within version contents b c.requires c.lemmas-lemmas.ensures.numbered.few_lemmas symmetries lemmas
