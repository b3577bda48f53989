use Rattle.cert_text.specs.CertificateSpelling.{pair_word}
use Rattle.cert_text.proofs.WritingLemmas.{no_word, one_word, all_words}
use Rattle.cert_text.proofs.spellings.put_pairs.Goals as goal

pub loop-pair-init : goal.loop-pair-init
loop-pair-init c = no_word pair_word c.args.pairs.now c.args.text.now.items

pub loop-pair-preserved : goal.loop-pair-preserved
loop-pair-preserved c =
    one_word pair_word c.args.pairs.now c.args.text.now.items c.loop-pair.text.items c.put_pair.new.text.items c.loop-pair.pair-index _ c.loop-pair-test.true c.loop-pair.invariant c.in_ok-put_pair.ensures

pub returns : goal.returns
returns c = all_words pair_word c.args.pairs.now c.args.text.now.items c.loop-pair.text.items c.loop-pair.pair-index c.loop-pair-test.false c.loop-pair.invariant
