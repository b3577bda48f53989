use Rattle.cert_text.proofs.ReadingLemmas.{found_of, only_of, cut_of}
use Rattle.cert_text.proofs.readers.read_lemma.Goals as goal

pub returns-clause-found : goal.returns-clause-found
returns-clause-found c = found_of c.args.text.now c.read_lemma_text.result c.read_lemma_text.ensures

pub returns-clause-only : goal.returns-clause-only
returns-clause-only c = only_of c.args.text.now c.read_lemma_text.result c.read_lemma_text.ensures

pub returns-clause-cut : goal.returns-clause-cut
returns-clause-cut c = cut_of c.args.text.now c.read_lemma_text.result c.read_lemma_text.ensures
