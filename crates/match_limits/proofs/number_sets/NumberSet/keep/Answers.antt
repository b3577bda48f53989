use Rattle.std.proofs.Common.{◌≤◌, ℕ, bit_and, get_or, arith}
use Rattle.std.proofs.lemmas.Nat.{and_le_l}
use Rattle.match_limits.proofs.NumberSetLemmas.{AreMade, are_made}
use Rattle.match_limits.proofs.SetPairLemmas.{both_members}
use Rattle.match_limits.proofs.number_sets.NumberSet.keep.Goals as goal
use Rattle.match_limits.proofs.number_sets.NumberSet.keep.Goals.{After-loop-i}

abbrev word : (c : After-loop-i) → ℕ → ℕ
word c k = bit_and (get_or c.self.inside.words k 0) (get_or c.kept.inside.words k 0)

all_words : (c : After-loop-i) → c.self.inside.end ≤ c.loop-i.i
all_words c = let end = c.loop-i.invariant.end in omega (arith, c.loop-i-test.false, end)

made : (c : After-loop-i) → AreMade (word c) c.self.inside.end c.loop-i.self-inside.words
made c =
    are_made (word c) c.self.inside.end c.self.inside.words c.loop-i.self-inside.words c.loop-i.i c.self.invariant
    (λ k. and_le_l (get_or c.self.inside.words k 0) (get_or c.kept.inside.words k 0)) c.loop-i.invariant.long (all_words c) c.loop-i.invariant.done
    (λ k le. let same = c.loop-i.invariant.rest k le in omega (arith, same))

pub invariant_of-self : goal.invariant_of-self
invariant_of-self c = rw c.loop-i.invariant.end (made c).of_set

pub returns : goal.returns
returns c =
    rw (← c.self.view_is, ← c.kept.view_is)
    (both_members c.self.inside.words c.kept.inside.words c.loop-i.self-inside.words c.self.invariant.small c.kept.invariant.small (made c).of_set.small (made c).each)
