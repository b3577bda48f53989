use Rattle.std.proofs.Common.{◌≡◌, ◌≤◌, ◌+◌, ◌-◌, ◌*◌}
use Rattle.cert_tree.specs.Tree.{count, forest_of}
use Rattle.cert_tree.specs.Heads.{join, front, past}
use Rattle.cert_tree.proofs.HeadLemmas.{nodes}
use Rattle.cert_tree.proofs.conversions.+building.Given as goal

-- a branch has more nodes than its children have
abbrev pub decreases-first_node : goal.decreases-first_node
decreases-first_node l = 2 * nodes l.trees.now

abbrev pub decreases-first_children : goal.decreases-first_children
decreases-first_children l = 2 * nodes l.trees.now + 1

-- The nodes that were built, and the trees that are left of the children, are the children.
abbrev pub invariant-first_children-loop : goal.invariant-first_children-loop
invariant-first_children-loop l = record {
  built : join (forest_of l.nodes.items) (front (l.children - l.counter) l.trees) ≡ front l.children l.initial.trees;
  past : past (l.children - l.counter) l.trees ≡ past l.children l.initial.trees;
  counted : l.children - l.counter ≤ count l.trees;
  fewer : nodes l.trees ≤ nodes l.initial.trees;
}
