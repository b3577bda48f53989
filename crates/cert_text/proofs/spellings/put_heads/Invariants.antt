use Rattle.std.proofs.Common.{◌≡◌, ◌++◌, drop}
use Rattle.std.specs.List.{flat_map}
use Rattle.text_words.specs.Spelling.{spaced}
use Rattle.cert_text.specs.HeadSpelling.{head_words}
use Rattle.cert_text.proofs.spellings.put_heads.Given as goal

abbrev pub invariant-loop-head : goal.invariant-loop-head
invariant-loop-head l = l.text.items ++ spaced (flat_map head_words (drop l.head-index l.heads)) ≡ l.fn.text.items ++ spaced (flat_map head_words l.heads)
