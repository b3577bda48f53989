use Rattle.std.proofs.Common.{◌≡◌, ◌++◌, drop}
use Rattle.std.specs.List.{flat_map}
use Rattle.show_reasons.specs.Sentences.{sentence}
use Rattle.show_reasons.proofs.sentences.put_sentences.Given as goal

-- the text so far, and the sentences that are left
abbrev pub invariant-loop-reason : goal.invariant-loop-reason
invariant-loop-reason l = l.text.items ++ flat_map sentence (drop l.reason-index l.reasons) ≡ l.fn.text.items ++ flat_map sentence l.reasons
