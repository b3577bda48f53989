use Rattle.std.proofs.Common.{◌/◌, ◌%◌, ◌*◌, ◌^◌, get_or, bit_and, ap}
use Rattle.match_limits.proofs.NumberSetLemmas.{and_all, common_group_members}
use Rattle.match_limits.proofs.number_sets.NumberSet.common_group.Goals as goal

pub returns-clause-common : goal.returns-clause-common
returns-clause-common c =
    let a = c.self.inside.words in
    let b = c.first.inside.words in
    let d = c.second.inside.words in
    let e = c.third.inside.words in
    let f = c.fourth.inside.words in
    rw (← c.self.view_is, ← c.first.view_is, ← c.second.view_is, ← c.third.view_is, ← c.fourth.view_is)
    (common_group_members a b d e f c.self.invariant.small c.first.invariant.small c.second.invariant.small c.third.invariant.small c.fourth.invariant.small c.args.group
    (bit_and (and_all (get_or a c.from-place.result 0) (get_or b c.from-place.result 0) (get_or d c.from-place.result 0) (get_or e c.from-place.result 0) (get_or f c.from-place.result 0) / 2 ^ (4 * (c.args.group % 16))) 15)
    c.requires
    (ap (λ k. bit_and (and_all (get_or a k 0) (get_or b k 0) (get_or d k 0) (get_or e k 0) (get_or f k 0) / 2 ^ (4 * (c.args.group % 16))) 15) c.from-place.ensures))
