use Rattle.std.proofs.Common.{◌≤◌, ◌*◌, ℕ, get_or, max, arith}
use Rattle.match_limits.proofs.NumberSetLemmas.{AreMade, are_made, and_all, and_all_le, common_members}
use Rattle.match_limits.proofs.number_sets.NumberSet.put_common.Goals as goal
use Rattle.match_limits.proofs.number_sets.NumberSet.put_common.Goals.{After-loop-block}

abbrev word : (c : After-loop-block) → ℕ → ℕ
word c k = and_all (get_or c.all.inside.words k 0) (get_or c.first.inside.words k 0) (get_or c.second.inside.words k 0) (get_or c.third.inside.words k 0) (get_or c.fourth.inside.words k 0)

all_words : (c : After-loop-block) → max c.self.inside.end c.all.inside.end ≤ 4 * c.loop-block.block
all_words c = omega (arith, c.loop-block-test.false, c.max-end.ensures)

made : (c : After-loop-block) → AreMade (word c) c.all.inside.end c.loop-block.self-inside.words
made c =
    are_made (word c) c.all.inside.end c.all.inside.words c.loop-block.self-inside.words (4 * c.loop-block.block) c.all.invariant
    (λ k. and_all_le (get_or c.all.inside.words k 0) (get_or c.first.inside.words k 0) (get_or c.second.inside.words k 0) (get_or c.third.inside.words k 0) (get_or c.fourth.inside.words k 0)) c.loop-block.invariant.long (let all = all_words c in omega (arith, all)) c.loop-block.invariant.done
    (λ k le.
    let same = c.loop-block.invariant.rest k le in
    let all = all_words c in
    let none = c.self.invariant.past k (omega (arith, le, all)) in
    omega (arith, same, none))

pub invariant_of-self : goal.invariant_of-self
invariant_of-self c = rw c.loop-block.invariant.end (made c).of_set

pub returns : goal.returns
returns c =
    rw (← c.all.view_is, ← c.first.view_is, ← c.second.view_is, ← c.third.view_is, ← c.fourth.view_is)
    (common_members c.all.inside.words c.first.inside.words c.second.inside.words c.third.inside.words c.fourth.inside.words c.all.invariant.small c.first.invariant.small c.second.invariant.small c.third.invariant.small c.fourth.invariant.small c.loop-block.self-inside.words (made c).of_set.small
    (made c).each)
