use Rattle.std.proofs.Common.{◌/◌, ◌%◌, ◌*◌, ◌^◌, get_or, bit_and, ap, subst}
use Rattle.match_limits.specs.NumberSets.{IsGroup}
use Rattle.match_limits.proofs.NumberSetLemmas.{group_members}
use Rattle.match_limits.proofs.number_sets.NumberSet.group.Goals as goal

pub returns-clause-group : goal.returns-clause-group
returns-clause-group c =
    let words = c.self.inside.words in
    subst (λ numbers. IsGroup numbers c.args.group (bit_and (get_or words c.from.result 0 / 2 ^ (4 * (c.args.group % 16))) 15)) c.self.view_is
    (group_members words c.self.invariant.small c.args.group c.requires _ (ap (λ k. bit_and (get_or words k 0 / 2 ^ (4 * (c.args.group % 16))) 15) c.from.ensures))
