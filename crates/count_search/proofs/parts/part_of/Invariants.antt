use Rattle.std.proofs.Common.{◌≡◌, ◌-◌, ◌++◌, drop, length}
use Rattle.count_search.specs.Branches.{every}
use Rattle.count_search.proofs.parts.part_of.Given as goal

abbrev pub invariant-loop-next : goal.invariant-loop-next
invariant-loop-next l = l.dealt.items ++ every l.parts 0 (drop l.next l.branches) ≡ every l.parts l.part l.branches

abbrev pub decreases-loop-next : goal.decreases-loop-next
decreases-loop-next l = length l.branches - l.next
