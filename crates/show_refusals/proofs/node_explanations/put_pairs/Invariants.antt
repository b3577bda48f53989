use Rattle.std.proofs.Common.{◌≡◌, ◌++◌, length, map}
use Rattle.text_words.specs.Spelling.{spaced}
use Rattle.cert_text.specs.CertificateSpelling.{pair_word}
use Rattle.show_refusals.proofs.node_explanations.put_pairs.Given as goal

-- What is written, and what the pairs that are left will add, are all that is to be written.
abbrev pub invariant-loop-pair : goal.invariant-loop-pair
invariant-loop-pair l =
    l.text.items ++ spaced (map pair_word l.pairs) ≡ l.fn.text.items ++ spaced (map pair_word l.fn.pairs)

abbrev pub decreases-loop-pair : goal.decreases-loop-pair
decreases-loop-pair l = length l.pairs
