use Rattle.std.proofs.Common.{◌≡◌, ◌≤◌}
use Rattle.cert_tree.specs.Tree.{count}
use Rattle.cert_tree.specs.Heads.{past}
use Rattle.cert_tree.proofs.HeadLemmas.{nodes}
use Rattle.cert_tree.proofs.flat_trees.Trees.skip.Given as goal

-- So many trees are still to be gone past.
abbrev pub invariant-loop-left : goal.invariant-loop-left
invariant-loop-left l = record {
  past : past l.left l.self ≡ past 1 l.initial.self;
  counted : l.left ≤ count l.self;
}

abbrev pub decreases-loop-left : goal.decreases-loop-left
decreases-loop-left l = nodes l.self
