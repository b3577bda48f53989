use Rattle.std.proofs.Common.{◌≡◌, ◌≤◌}
use Rattle.cert_tree.specs.Tree.{count}
use Rattle.cert_tree.specs.Heads.{past}
use Rattle.cert_tree.proofs.HeadLemmas.{nodes}
use Rattle.cert_check.proofs.scenes.go_past.Given as goal

-- So many trees are still to be gone past.
abbrev pub invariant-loop-left : goal.invariant-loop-left
invariant-loop-left l = record {
  past : past l.left l.trees ≡ past l.number l.initial.trees;
  counted : l.left ≤ count l.trees;
}

abbrev pub decreases-loop-left : goal.decreases-loop-left
decreases-loop-left l = nodes l.trees
