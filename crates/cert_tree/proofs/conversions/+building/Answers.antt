use Rattle.std.proofs.Common.{◌≡◌, ◌+◌, ◌-◌, ◌≤◌, suc, ap, sym, subst, ◌∙◌, arith}
use Rattle.cert_tree.specs.declared.heads.Head.TheVariants as heads
use Rattle.match_puzzle.specs.declared.items.Item.TheVariants as items
use Rattle.cert_tree.specs.Tree.{branch, count, forest_of}
use Rattle.cert_tree.specs.Heads.{first, front, join, past}
use Rattle.cert_tree.proofs.TreeLemmas.{tree_of-Cell, tree_of-Tile}
use Rattle.cert_tree.proofs.HeadLemmas.{nodes, nodes-put, nodes-past, some_counted, past_first, count_first}
use Rattle.cert_tree.proofs.ConversionLemmas.{child_built, all_built}
use Rattle.cert_tree.proofs.conversions.+building.Goals as goal

pub first_children-loop-init : goal.first_children-loop-init
first_children-loop-init t c =
    let n = c.args.children in
    let trees = c.args.trees.now in
    let all : n - 0 ≡ n = omega arith in
    record {
      built = ap (λ nodes. join (forest_of nodes) (front (n - 0) trees)) c.in_ok-nodes.ensures.items ∙ ap (λ k. front k trees) all;
      past = ap (λ k. past k trees) all;
      counted = subst (λ k. k ≤ count trees) (sym all) c.requires;
      fewer = omega arith;
    }

pub first_children-first_node-requires : goal.first_children-first_node-requires
first_children-first_node-requires t c =
    (omega (arith, c.decreases, c.loop.invariant.fewer), some_counted c.loop.trees (c.args.children - c.loop.counter) (omega arith) c.loop.invariant.counted)

pub first_children-loop-preserved : goal.first_children-loop-preserved
first_children-loop-preserved t c =
    let n = c.args.children in
    let i = c.loop.counter in
    let left = n - (i + 1) in
    let less : n - i ≡ suc left = omega arith in
    let gone : c.first_node.new.trees ≡ past 1 c.loop.trees = c.in_ok-node.ensures.past in
    record {
      built = child_built c.loop.nodes.items c.in_ok-node.node c.loop.trees c.first_node.new.trees c.push.new.self.items (n - i) left _ less c.loop.invariant.counted gone c.in_ok-push.ensures.items c.in_ok-node.ensures.node c.loop.invariant.built;
      past = ap (past left) gone ∙ sym (past_first (n - i) left c.loop.trees less c.loop.invariant.counted) ∙ c.loop.invariant.past;
      counted = subst (λ ts. left ≤ count ts) (sym gone) (count_first (n - i) left c.loop.trees less c.loop.invariant.counted);
      fewer = omega (arith, ap nodes gone, nodes-past 1 c.loop.trees, c.loop.invariant.fewer);
    }

pub first_children-returns-clause-nodes : goal.first_children-returns-clause-nodes
first_children-returns-clause-nodes t c =
    ap forest_of c.new.ensures ∙ all_built c.loop.nodes.items c.loop.trees (c.args.children - c.loop.counter) _ (omega arith) c.loop.invariant.built

pub first_node-first_children-requires : goal.first_node-first_children-requires
first_node-first_children-requires t c =
    let fewer = nodes-put (heads.Cell c.in-Cell.cell c.in-Cell.children) c.args.trees.now c.next.new.self c.in-Cell.ensures.first c.in-Cell.ensures.children in
    (omega (arith, c.decreases, fewer), c.in-Cell.ensures.children)

pub first_node-first_children-requires-in-Tile : goal.first_node-first_children-requires-in-Tile
first_node-first_children-requires-in-Tile t c =
    let fewer = nodes-put (heads.Tile c.in-Tile.tile c.in-Tile.children) c.args.trees.now c.next.new.self c.in-Tile.ensures.first c.in-Tile.ensures.children in
    (omega (arith, c.decreases, fewer), c.in-Tile.ensures.children)

pub first_node-returns-in_ok-children-in-Cell-clause-node :
    goal.first_node-returns-in_ok-children-in-Cell-clause-node
first_node-returns-in_ok-children-in-Cell-clause-node t c =
    let cell = c.in-Cell.cell in
    let made = c.in_ok-children-in-Cell in
    tree_of-Cell cell made.children ∙ ap (branch (items.Cell cell)) made.ensures.nodes ∙ ap first c.in-Cell.ensures.first

pub first_node-returns-in_ok-children-in-Cell-clause-past :
    goal.first_node-returns-in_ok-children-in-Cell-clause-past
first_node-returns-in_ok-children-in-Cell-clause-past t c = c.in_ok-children-in-Cell.ensures.past ∙ ap (past 1) c.in-Cell.ensures.first

pub first_node-returns-in_ok-children-in-Tile-clause-node :
    goal.first_node-returns-in_ok-children-in-Tile-clause-node
first_node-returns-in_ok-children-in-Tile-clause-node t c =
    let tile = c.in-Tile.tile in
    let made = c.in_ok-children-in-Tile in
    tree_of-Tile tile made.children ∙ ap (branch (items.Tile tile)) made.ensures.nodes ∙ ap first c.in-Tile.ensures.first

pub first_node-returns-in_ok-children-in-Tile-clause-past :
    goal.first_node-returns-in_ok-children-in-Tile-clause-past
first_node-returns-in_ok-children-in-Tile-clause-past t c = c.in_ok-children-in-Tile.ensures.past ∙ ap (past 1) c.in-Tile.ensures.first
