use Rattle.std.proofs.Common.{◌+◌, ◌*◌, drop}
use Rattle.cert_tree.specs.Tree.{forest_of}
use Rattle.cert_tree.specs.Limits.{AreTreesWithin}
use Rattle.cert_tree.proofs.within_limits.+limits.Given as goal

-- a node of one level more asks for its children, and those for their nodes
abbrev pub decreases-is_node_within : goal.decreases-is_node_within
decreases-is_node_within l = 3 * l.room

abbrev pub decreases-are_children_within : goal.decreases-are_children_within
decreases-are_children_within l = 3 * l.room + 2

abbrev pub decreases-are_nodes_within : goal.decreases-are_nodes_within
decreases-are_nodes_within l = 3 * l.room + 1

abbrev pub invariant-are_nodes_within-loop-node : goal.invariant-are_nodes_within-loop-node
invariant-are_nodes_within-loop-node l = record {
  back : AreTreesWithin l.cells l.room (forest_of (drop l.node-index l.nodes)) → AreTreesWithin l.cells l.room (forest_of l.nodes);
  on : AreTreesWithin l.cells l.room (forest_of l.nodes) → AreTreesWithin l.cells l.room (forest_of (drop l.node-index l.nodes));
}
