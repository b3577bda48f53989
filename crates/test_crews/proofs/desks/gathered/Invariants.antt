use Rattle.std.proofs.Common.{◌≤◌, All, vec_len}
use Rattle.match_limits.specs.declared.TheConstants.{MOST_ARRANGEMENTS}
use Rattle.test_crews.proofs.desks.gathered.Given as goal

abbrev pub invariant-loop-number : goal.invariant-loop-number
invariant-loop-number l = record {
  few : vec_len l.first ≤ 4;
  small : All (λ n. n ≤ MOST_ARRANGEMENTS) l.first.items;
}
