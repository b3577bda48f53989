use Rattle.std.proofs.Common.{◌<◌, length, ◌∙◌, arith}
use Rattle.text_words.proofs.WritingLemmas.{no_line, one_line, all_lines}
use Rattle.cert_tree.specs.Certificate.{flat_piece}
use Rattle.cert_text.specs.CertificateSpelling.{lemma_words}
use Rattle.cert_tree.proofs.SpanLemmas.{read_at}
use Rattle.cert_text.proofs.spellings.put_lemmas.Goals as goal

pub loop-number-init : goal.loop-number-init
loop-number-init c = no_line lemma_words c.args.lemmas.now c.args.text.now.items

pub loop-number-preserved : goal.loop-number-preserved
loop-number-preserved c =
    let i = c.loop-number.number in
    let lemma = flat_piece c.at.result in
    let lt : i < length c.args.lemmas.now = omega (arith, c.loop-number-test.true, c.len-number-end.ensures) in
    one_line lemma_words c.args.lemmas.now c.args.text.now.items c.loop-number.text.items c.put_lemma.new.text.items i lemma lt (read_at c.args.lemmas.now i lemma c.at.ensures) c.loop-number.invariant c.in_ok-put_lemma.ensures

pub returns : goal.returns
returns c = c.loop-number.invariant ∙ all_lines lemma_words c.args.lemmas.now c.args.text.now.items c.loop-number.number (omega (arith, c.loop-number-test.false, c.len-number-end.ensures))
