use Rattle.std.proofs.Common.{◌<◌, ◌/◌, ◌%◌, ◌*◌, ◌^◌, ◌∙◌, ℕ, get_or, bit_and, ap, arith}
use Rattle.std.proofs.lemmas.Nat.{and_le_r, ones-le}
use Rattle.match_limits.specs.NumberSets.{count_of_group}
use Rattle.match_limits.specs.NumberSets.{members}
use Rattle.match_limits.proofs.NumberSetLemmas.{group_members, members_listing}
use Rattle.match_limits.proofs.GroupCounts.{ones_of_group}
use Rattle.match_limits.proofs.number_sets.NumberSet.group_len.Goals as goal

-- the digits of the group in its word
abbrev digits : (word group : ℕ) → ℕ
digits word group = bit_and (word / 2 ^ (4 * (group % 16))) 15

few_digits : (word group : ℕ) → digits word group < 16
few_digits word group = let least = and_le_r (word / 2 ^ (4 * (group % 16))) 15 in omega (arith, least)

pub returns-clause-count : goal.returns-clause-count
returns-clause-count c =
    let words = c.self.inside.words in
    let group = c.args.group in
    let word = get_or words c.from.result 0 in
    ones_of_group (members words) group (digits word group) (members_listing words c.self.invariant.small).rising (few_digits word group)
    (group_members words c.self.invariant.small group c.requires (digits word group) (ap (λ k. digits (get_or words k 0) group) c.from.ensures))
    ∙ ap (λ numbers. count_of_group numbers group) c.self.view_is

pub returns-clause-few : goal.returns-clause-few
returns-clause-few c =
    let word = get_or c.self.inside.words c.from.result 0 in
    ones-le 4 (digits word c.args.group) (few_digits word c.args.group)
