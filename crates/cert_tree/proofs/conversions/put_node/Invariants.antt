use Rattle.std.proofs.Common.{◌≡◌, ◌+◌, ◌*◌, ◌++◌, length}
use Rattle.cert_tree.specs.Tree.{tree_of}
use Rattle.cert_tree.specs.Heads.{heads_of}
use Rattle.cert_tree.proofs.ConversionLemmas.{heads_left, AreAllNarrow}
use Rattle.cert_tree.proofs.conversions.put_node.Given as goal

-- The heads of what is left make it whole.
abbrev pub invariant-loop-nodes : goal.invariant-loop-nodes
invariant-loop-nodes l = record {
  whole : l.heads.items ++ heads_left l.left.items ≡ l.fn.heads.items ++ heads_of (tree_of l.fn.node);
  narrow : AreAllNarrow l.left.items;
}

-- A node leaves one head less, and two in its place.
abbrev pub decreases-loop-nodes : goal.decreases-loop-nodes
decreases-loop-nodes l = 2 * length (heads_left l.left.items) + length l.left.items
