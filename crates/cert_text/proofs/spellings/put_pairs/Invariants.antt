use Rattle.std.proofs.Common.{◌≡◌, ◌++◌, map, take}
use Rattle.text_words.specs.Spelling.{spaced}
use Rattle.cert_text.specs.CertificateSpelling.{pair_word}
use Rattle.cert_text.proofs.spellings.put_pairs.Given as goal

abbrev pub invariant-loop-pair : goal.invariant-loop-pair
invariant-loop-pair l = l.text.items ≡ l.fn.text.items ++ spaced (map pair_word (take l.pair-index l.pairs))
