use Rattle.match_limits.specs.declared.TheConstants.{MOST_CELLS}
use Rattle.text_words.proofs.TextLaws.{reads_what_is_spelled}
use Rattle.cert_tree.specs.Limits.{IsLemmaWithin}
use Rattle.cert_text.specs.CertificateText.{lemma_of}
use Rattle.cert_text.specs.CertificateSpelling.{lemma_spelling}
use Rattle.cert_text.proofs.CertificateTextLemmas.{lemma_found, lemma_only, lemma_short}
use Rattle.cert_text.proofs.laws.lemma_laws.Goals as goal

pub returns : goal.returns
returns c = reads_what_is_spelled lemma_of (IsLemmaWithin MOST_CELLS) lemma_spelling lemma_found lemma_only lemma_short
