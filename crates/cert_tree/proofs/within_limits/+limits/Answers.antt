use Rattle.std.proofs.Common.{◌≡◌, ◌-◌, ◌*◌, length, ap, sym, subst, ◌∙◌, arith}
use Rattle.std.specs.Prelude.{MatchBool}
use Rattle.std.proofs.lemmas.Bool.{le-ltb, lt-leb}
use Rattle.std.proofs.lemmas.List.{drop_all}
use Rattle.match_puzzle.specs.declared.items.Item.TheVariants as items
use Rattle.cert_tree.specs.Tree.{branch, tree_of, forest_of}
use Rattle.cert_tree.specs.Limits.{IsTreeWithin, AreTreesWithin, AreChildrenWithin}
use Rattle.cert_tree.proofs.TreeLemmas.{tree_of-Cell, tree_of-Tile}
use Rattle.cert_tree.proofs.TreeLimitLemmas.{branch_parts, branch_by_children, first_child, more_children, children_by_nodes, too_many, too_few}
use Rattle.cert_tree.proofs.within_limits.+limits.Goals as goal

pub are_children_within-returns-then-count-most :
    goal.are_children_within-returns-then-count-most
are_children_within-returns-then-count-most t c = children_by_nodes c.args.cells c.args.room c.args.nodes.now c.are_nodes_within.result c.if-count-gt0.true (omega (arith, c.if-count-most.true, c.from.ensures)) c.are_nodes_within.ensures

pub are_children_within-returns-else-count-most :
    goal.are_children_within-returns-else-count-most
are_children_within-returns-else-count-most t c = rw (lt-leb (length c.args.nodes.now) (4 * c.from.result) c.if-count-most.false) (too_many c.args.cells c.args.room c.args.nodes.now (omega (arith, c.if-count-most.false, c.from.ensures)))

pub are_children_within-returns-else-count-gt0 :
    goal.are_children_within-returns-else-count-gt0
are_children_within-returns-else-count-gt0 t c = rw (le-ltb 0 (length c.args.nodes.now) c.if-count-gt0.false) (too_few c.args.cells c.args.room c.args.nodes.now (omega (arith, c.if-count-gt0.false)))

pub are_nodes_within-loop-node-init : goal.are_nodes_within-loop-node-init
are_nodes_within-loop-node-init t c = record { back = λ all. all; on = λ all. all }

pub are_nodes_within-returns-then-not-is_node_within :
    goal.are_nodes_within-returns-then-not-is_node_within
are_nodes_within-returns-then-not-is_node_within t c = λ all.
    let first = first_child c.args.cells c.args.room c.args.nodes.now c.loop-node.node-index c.node-item.result c.loop-node-test.true (c.loop-node.invariant.on all) in
    c.if-not-is_node_within.ensures (subst (λ node. IsTreeWithin c.args.cells c.args.room (tree_of node)) (sym c.node-item.is) first.0)

pub are_nodes_within-loop-node-preserved : goal.are_nodes_within-loop-node-preserved
are_nodes_within-loop-node-preserved t c =
    let one = subst (λ node. IsTreeWithin c.args.cells c.args.room (tree_of node)) c.node-item.is c.if-not-is_node_within.ensures in
    record {
      back = λ others. c.loop-node.invariant.back (more_children c.args.cells c.args.room c.args.nodes.now c.loop-node.node-index c.node-item.result c.loop-node-test.true one others);
      on = λ all. (first_child c.args.cells c.args.room c.args.nodes.now c.loop-node.node-index c.node-item.result c.loop-node-test.true (c.loop-node.invariant.on all)).1;
    }

pub are_nodes_within-returns : goal.are_nodes_within-returns
are_nodes_within-returns t c =
    let none = drop_all c.loop-node.node-index c.args.nodes.now (omega (arith, c.loop-node-test.false)) in
    c.loop-node.invariant.back (subst (λ nodes. AreTreesWithin c.args.cells c.args.room (forest_of nodes)) (sym none) tt)

pub is_node_within-returns-then-cell-cells :
    goal.is_node_within-returns-then-cell-cells
is_node_within-returns-then-cell-cells t c =
    let nodes = c.in-Cell.children.nodes.items in
    let is : tree_of c.args.node.now ≡ branch (items.Cell c.in-Cell.cell) (forest_of nodes) = ap tree_of c.in-Cell.is ∙ tree_of-Cell c.in-Cell.cell c.in-Cell.children in
    let children = subst (λ ns. MatchBool c.are_children_within.result (AreChildrenWithin c.args.cells (c.args.room - 1) (forest_of ns)) (AreChildrenWithin c.args.cells (c.args.room - 1) (forest_of ns) → ⊥)) c.as_slice.ensures c.are_children_within.ensures in
    rw is (branch_by_children c.args.cells c.args.room (items.Cell c.in-Cell.cell) (forest_of nodes) c.are_children_within.result c.if-room-eq0.false c.if-cell-cells.true children)

pub is_node_within-returns-then-tile-cells :
    goal.is_node_within-returns-then-tile-cells
is_node_within-returns-then-tile-cells t c =
    let nodes = c.in-Tile.children.nodes.items in
    let is : tree_of c.args.node.now ≡ branch (items.Tile c.in-Tile.tile) (forest_of nodes) = ap tree_of c.in-Tile.is ∙ tree_of-Tile c.in-Tile.tile c.in-Tile.children in
    let checked = c.are_children_within-then-tile-cells in
    let children = subst (λ ns. MatchBool checked.result (AreChildrenWithin c.args.cells (c.args.room - 1) (forest_of ns)) (AreChildrenWithin c.args.cells (c.args.room - 1) (forest_of ns) → ⊥)) c.as_slice-then-tile-cells.ensures checked.ensures in
    rw is (branch_by_children c.args.cells c.args.room (items.Tile c.in-Tile.tile) (forest_of nodes) checked.result c.if-room-eq0.false c.if-tile-cells.true children)

pub is_node_within-returns-else-cell-cells :
    goal.is_node_within-returns-else-cell-cells
is_node_within-returns-else-cell-cells t c =
    let item = items.Cell c.in-Cell.cell in
    let nodes = c.in-Cell.children.nodes.items in
    let is : tree_of c.args.node.now ≡ branch item (forest_of nodes) = ap tree_of c.in-Cell.is ∙ tree_of-Cell c.in-Cell.cell c.in-Cell.children in
    rw (is, le-ltb c.in-Cell.cell c.args.cells c.if-cell-cells.false) (λ within. omega (arith, (branch_parts c.args.cells c.args.room item (forest_of nodes) within).0, c.if-cell-cells.false))

pub is_node_within-returns-else-tile-cells :
    goal.is_node_within-returns-else-tile-cells
is_node_within-returns-else-tile-cells t c =
    let item = items.Tile c.in-Tile.tile in
    let nodes = c.in-Tile.children.nodes.items in
    let is : tree_of c.args.node.now ≡ branch item (forest_of nodes) = ap tree_of c.in-Tile.is ∙ tree_of-Tile c.in-Tile.tile c.in-Tile.children in
    rw (is, le-ltb c.in-Tile.tile c.args.cells c.if-tile-cells.false) (λ within. omega (arith, (branch_parts c.args.cells c.args.room item (forest_of nodes) within).0, c.if-tile-cells.false))
