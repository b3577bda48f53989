use Rattle.std.proofs.Common.{◌≡◌, ◌≤◌, ◌+◌, ◌-◌, ◌*◌, None}
use Rattle.cert_tree.specs.Tree.{count}
use Rattle.cert_tree.specs.Heads.{front, past}
use Rattle.cert_check.proofs.WalkLemmas.{Going, free_count}
use Rattle.cert_check.proofs.walks.+walk.Given as goal

-- The children before this one hold, what is placed is as it was, and the other children come next.
abbrev pub invariant-walk_branch-loop-number : goal.invariant-walk_branch-loop-number
invariant-walk_branch-loop-number l = record {
  partial : l.partial ≡ l.initial.partial;
  going : Going l.setting l.fn.item l.initial.partial.placed (front l.children l.initial.trees) l.number (front (l.children - l.number) l.trees) l.pairs;
  past : past (l.children - l.number) l.trees ≡ past l.children l.initial.trees;
  no_fault : l.fault ≡ None;
  counted : l.children - l.number ≤ count l.trees;
}

-- Each level fills a cell.
abbrev pub decreases-walk : goal.decreases-walk
decreases-walk l = 2 * free_count l.partial.now.placed + 1

abbrev pub decreases-walk_branch : goal.decreases-walk_branch
decreases-walk_branch l = 2 * free_count l.partial.now.placed
