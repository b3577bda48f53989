use Rattle.std.proofs.Common.{ap, ◌∙◌}
use Rattle.cert_tree.specs.Tree.{tree_of}
use Rattle.cert_tree.proofs.TreeLemmas.{tree_of-Cell, tree_of-Tile}
use Rattle.cert_tree.proofs.ConversionLemmas.{few_children, heads_of_branch}
use Rattle.cert_tree.proofs.conversions.head_and_children.Goals as goal

pub branch_and_children-requires : goal.branch_and_children-requires
branch_and_children-requires c =
    few_children c.args.node.now _ c.in-Cell.children.nodes.items (ap tree_of c.in-Cell.is ∙ tree_of-Cell c.in-Cell.cell c.in-Cell.children) c.requires

pub branch_and_children-requires-in-Tile : goal.branch_and_children-requires-in-Tile
branch_and_children-requires-in-Tile c =
    few_children c.args.node.now _ c.in-Tile.children.nodes.items (ap tree_of c.in-Tile.is ∙ tree_of-Tile c.in-Tile.tile c.in-Tile.children) c.requires

pub returns-in-Cell-clause-heads : goal.returns-in-Cell-clause-heads
returns-in-Cell-clause-heads c =
    let made = c.branch_and_children in
    heads_of_branch c.args.node.now _ c.in-Cell.children.nodes.items made.result.1.now made.result.0 (ap tree_of c.in-Cell.is ∙ tree_of-Cell c.in-Cell.cell c.in-Cell.children) made.ensures.head made.ensures.children

pub returns-in-Tile-clause-heads : goal.returns-in-Tile-clause-heads
returns-in-Tile-clause-heads c =
    let made = c.branch_and_children-in-Tile in
    heads_of_branch c.args.node.now _ c.in-Tile.children.nodes.items made.result.1.now made.result.0 (ap tree_of c.in-Tile.is ∙ tree_of-Tile c.in-Tile.tile c.in-Tile.children) made.ensures.head made.ensures.children
