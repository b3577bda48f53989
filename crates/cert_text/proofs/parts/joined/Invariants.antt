use Rattle.std.proofs.Common.{◌≡◌, List, drop, length}
use Rattle.cert_text.specs.declared.parts.LemmaPart.{LemmaPart}
use Rattle.cert_text.specs.Parts.{AreRead, parts_say}
use Rattle.cert_text.proofs.PartLemmas.{onto}
use Rattle.cert_text.proofs.parts.joined.Given as goal

-- These are the lemmas of the first parts, whatever parts were read.
abbrev pub invariant-loop-one : goal.invariant-loop-one
invariant-loop-one l =
    (parts : List LemmaPart) → AreRead parts l.fn.read.items
    → onto l.all (parts_say (drop (length l.yielded) parts)) ≡ parts_say parts
