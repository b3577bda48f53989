use Rattle.std.proofs.Common.{ℕ, get_or, arith}
use Rattle.match_limits.proofs.NumberSetLemmas.{AreMade, are_made}
use Rattle.match_limits.proofs.SetPairLemmas.{word_without, word_without_le, without_members}
use Rattle.match_limits.proofs.number_sets.NumberSet.put_without.Goals as goal
use Rattle.match_limits.proofs.number_sets.NumberSet.put_without.Goals.{After-loop-i}

abbrev word : (c : After-loop-i) → ℕ → ℕ
word c k = word_without (get_or c.first.inside.words k 0) (get_or c.without.inside.words k 0) (get_or c.last.inside.words k 0)

made : (c : After-loop-i) → AreMade (word c) c.first.inside.end c.loop-i.self-inside.words
made c =
    are_made (word c) c.first.inside.end c.first.inside.words c.loop-i.self-inside.words c.loop-i.i c.first.invariant
    (λ k. word_without_le (get_or c.first.inside.words k 0) (get_or c.without.inside.words k 0) (get_or c.last.inside.words k 0)) c.loop-i.invariant.long c.loop-i-test.false c.loop-i.invariant.done
    (λ k le. let none = c.loop-i.invariant.rest k le in omega (arith, none))

pub invariant_of-self : goal.invariant_of-self
invariant_of-self c = rw c.loop-i.invariant.end (made c).of_set

pub returns : goal.returns
returns c =
    rw (← c.first.view_is, ← c.without.view_is, ← c.last.view_is)
    (without_members c.first.inside.words c.without.inside.words c.last.inside.words c.loop-i.self-inside.words c.first.invariant.small c.without.invariant.small c.last.invariant.small (made c).of_set.small (made c).each)
