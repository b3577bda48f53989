use Rattle.cert_tree.specs.Certificate.{piece_number}
use Rattle.std.proofs.lemmas.Result.{err_from_is_err_and}
use Rattle.std.proofs.Common.{◌≡◌, length, Ok, Err, subst}
use Rattle.match_limits.specs.Ranges.{ranges_of}
use Rattle.match_limits.proofs.RangesLemmas.{are_ranges}
use Rattle.cert_tree.specs.Assembly.{Assembles}
use Rattle.cert_text.specs.Lines.{said_of}
use Rattle.cert_text.proofs.ReadingLemmas.{short_within, made_fault}
use Rattle.cert_text.proofs.readers.made.Goals as goal

pub assemble_flat-requires-clause-prefixes : goal.assemble_flat-requires-clause-prefixes
assemble_flat-requires-clause-prefixes c = short_within (ranges_of c.args.lines.version) (are_ranges c.args.lines.version) c.args.lines.lemmas c.requires.pieces

pub returns-in_err-certificate : goal.returns-in_err-certificate
returns-in_err-certificate c =
    let lemmas = c.args.lines.lemmas in
    let p = err_from_is_err_and c.from_residual.result c.from_residual.ensures.1 in
    let many : c.len-count.result ≡ length lemmas = c.len-count.ensures in
    rw (p.1, p.2) (made_fault (said_of c.args.lines) c.in_err-certificate.field-0.0 (subst (λ n. Assembles piece_number n lemmas (Err c.in_err-certificate.field-0.0)) many c.in_err-certificate.ensures.fault))

pub returns : goal.returns
returns c =
    let lemmas = c.args.lines.lemmas in
    let many : c.len-count.result ≡ length lemmas = c.len-count.ensures in
    (c.in_ok-certificate.ensures.symmetries, subst (λ n. Assembles piece_number n lemmas (Ok c.in_ok-certificate.certificate.lemmas)) many c.in_ok-certificate.ensures.lemmas)
