use Rattle.std.proofs.Common.{◌≡◌, sym, ap, ◌∙◌}
use Rattle.text_words.specs.Spelling.{line_text}
use Rattle.text_words.proofs.WritingLemmas.{line_alone}
use Rattle.cert_tree.specs.Certificate.{Piece, piece_of, flat_piece}
use Rattle.cert_text.specs.CertificateText.{lemma_of}
use Rattle.cert_text.specs.CertificateSpelling.{lemma_words, lemma_spelling}
use Rattle.cert_text.proofs.CertificateTextLemmas.{lemma_only}
use Rattle.cert_text.proofs.spellings.write_lemma.Goals as goal

pub returns-clause-spelling : goal.returns-clause-spelling
unfolding lemma_spelling
returns-clause-spelling c =
    let same : flat_piece c.lend.result ≡ piece_of c.args.lemma.now = c.lend.ensures ∙ c.in_ok-packed.ensures in
    rw (c.in_ok-put_lemma.ensures, c.new-text.ensures.items) (ap (λ (piece : Piece). line_text (lemma_words piece)) same ∙ sym (line_alone (lemma_words (piece_of c.args.lemma.now))))

pub returns-clause-reads : goal.returns-clause-reads
returns-clause-reads c = ap lemma_of (returns-clause-spelling c) ∙ lemma_only (piece_of c.args.lemma.now) c.requires
