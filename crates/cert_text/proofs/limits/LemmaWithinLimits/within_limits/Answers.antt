use Rattle.match_limits.specs.declared.TheConstants.{MOST_CELLS}
use Rattle.cert_tree.specs.Certificate.{piece_of}
use Rattle.cert_tree.specs.Limits.{IsLemmaWithin}
use Rattle.cert_text.specs.CertificateText.{lemma_of}
use Rattle.cert_text.specs.CertificateSpelling.{lemma_spelling}
use Rattle.cert_text.proofs.CertificateTextLemmas.{lemma_found, lemma_only}
use Rattle.cert_text.proofs.LawLemmas.{spelled_by_limits}
use Rattle.cert_text.proofs.limits.LemmaWithinLimits.within_limits.Goals as goal

pub returns-clause-spelled : goal.returns-clause-spelled
returns-clause-spelled c = spelled_by_limits lemma_of (IsLemmaWithin MOST_CELLS) lemma_spelling lemma_found lemma_only (piece_of c.args.self.now) c.is_within.result c.is_within.ensures
