use Rattle.std.proofs.Common.{List, length, subst}
use Rattle.match_limits.specs.Ranges.{ranges_of}
use Rattle.cert_tree.specs.Certificate.{Piece}
use Rattle.cert_text.specs.CertificateSpelling.{AreSymmetriesWithin}
use Rattle.cert_text.proofs.WholeLemmas.{whole_within}
use Rattle.cert_text.specs.LemmaParts.{TellsOfLimits}
use Rattle.cert_text.proofs.crew_limits.within_limits_with.Goals as goal

pub returns : goal.returns
returns g c =
    let version = c.args.version in
    let contents = c.args.certificate.now in
    let told = c.in_ok-lemmas.lemmas in
    let symmetries = subst (AreSymmetriesWithin (ranges_of version)) c.symmetries.ensures.symmetries c.if-not-are_symmetries_within_limits.ensures in
    let lemmas = subst (λ (pieces : List Piece). TellsOfLimits version pieces 0 (length pieces) told) c.lemmas.ensures.lemmas c.in_ok-lemmas.ensures in
    whole_within version contents told c.requires.version c.lemmas.ensures.numbered.few_lemmas symmetries lemmas
