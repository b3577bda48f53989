use Rattle.std.proofs.Common.{refl}
use Rattle.match_limits.specs.Ranges.{ranges_of}
use Rattle.cert_text.specs.CertificateSpelling.{AreColourImagesWithin, IsSymmetryWithin}
use Rattle.cert_text.proofs.WiderLemmas.{each_within}
use Rattle.cert_text.proofs.spellings.certificate_front.Goals as goal

pub put_symmetries-requires : goal.put_symmetries-requires
put_symmetries-requires c =
    rw c.symmetries-symmetries.ensures.symmetries (each_within (IsSymmetryWithin (ranges_of c.args.version)) (λ line. AreColourImagesWithin line.colours) (λ line fits. fits.colours) c.args.certificate.now.symmetries c.requires.symmetries)

pub returns : goal.returns
returns c =
    rw (c.in_ok-put_number_line-3.ensures, c.in_ok-put_symmetries.ensures, c.in_ok-put_number_line-2.ensures, c.in_ok-put_number_line.ensures, c.from.ensures, c.new-text.ensures.items, c.symmetries-symmetries.ensures.symmetries, c.len.ensures, c.lemmas.ensures.lemmas) refl
