use Rattle.std.proofs.Common.{◌<◌, ◌++◌, length, take, append_assoc, ap, sym, ◌∙◌, arith}
use Rattle.text_words.specs.Spelling.{line_text}
use Rattle.text_words.proofs.WritingLemmas.{lines_more}
use Rattle.cert_tree.specs.Certificate.{flat_piece}
use Rattle.cert_text.specs.CertificateSpelling.{lemma_words, lemma_lines}
use Rattle.cert_tree.proofs.SpanLemmas.{read_at}
use Rattle.cert_text.proofs.spellings.write_lemma_lines.Goals as goal

pub loop-number-preserved : goal.loop-number-preserved
loop-number-preserved c =
    let lemmas = c.args.lemmas.now in
    let i = c.loop-number.number in
    let lemma = flat_piece c.at.result in
    let lt : i < length lemmas = omega (arith, c.loop-number-test.true, c.requires.1) in
    let before = lemma_lines (take c.args.first lemmas) in
    lines_more lemma_words lemmas i lemma lt
    ∙ ap (λ x. lemma_lines (take i lemmas) ++ line_text (lemma_words x)) (sym (read_at lemmas i lemma c.at.ensures))
    ∙ ap (λ t. t ++ line_text (lemma_words lemma)) c.loop-number.invariant
    ∙ append_assoc before c.loop-number.text.items (line_text (lemma_words lemma))
    ∙ ap (λ t. before ++ t) (sym c.in_ok-put_lemma.ensures)
