use Rattle.cert_text.proofs.CutLemmas.{AreFirstStarts}
use Rattle.cert_text.proofs.lemma_parts.starts_of.Given as goal

abbrev pub invariant-loop-number : goal.invariant-loop-number
invariant-loop-number l = AreFirstStarts l.number l.starts.items
