use Rattle.std.proofs.Common.{◌≡◌, ◌+◌, ◌*◌}
use Rattle.cert_check.proofs.ForkLemmas.{Along}
use Rattle.cert_check.proofs.forks.+forking.Given as goal

-- The children before this one hold, what is placed is as it was, and the other children come next.
abbrev pub invariant-walk_children-loop-number : goal.invariant-walk_children-loop-number
invariant-walk_children-loop-number g l = record {
  own : l.own ≡ l.part.partial.now;
  along : Along l.part.setting.now l.part.item l.part.partial.now.placed l.part.trees.now l.part.start l.part.end l.number l.rest l.pairs;
}

-- Each level takes a fork.
abbrev pub decreases-forked_walk : goal.decreases-forked_walk
decreases-forked_walk g l = 6 * l.forks

abbrev pub decreases-forked_branch : goal.decreases-forked_branch
decreases-forked_branch g l = 6 * l.forks + 5

abbrev pub decreases-walk_halves : goal.decreases-walk_halves
decreases-walk_halves g l = 6 * l.forks + 4

abbrev pub decreases-walk_halves-at_once : goal.decreases-walk_halves-at_once
decreases-walk_halves-at_once g l = 6 * l.forks + 3

abbrev pub decreases-walk_part : goal.decreases-walk_part
decreases-walk_part g l = 6 * l.forks + 2

abbrev pub decreases-walk_children : goal.decreases-walk_children
decreases-walk_children g l = 6 * l.forks + 1
